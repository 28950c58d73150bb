-- What is seen of a record that breaks or is spent.
use Rattle.std.specs.Prelude.{ℕ, Bool, List}

-- the bytes that a restart finds, whether the device has broken, whether no change can be numbered, and how often
-- the device has failed
pub record Odd : Type 0 where
  pub bytes : List ℕ
  pub stuck : Bool
  pub spent : Bool
  pub failures : ℕ
