-- Which bytes name a resource, and how a name lies in a room of a fixed size.
use Rattle.std.specs.Prelude.{◌≡◌, ℕ, ◌-◌, ◌<◌, ◌≤◌, ◌==◌, Bool, ◌&&◌, ◌||◌, List, ◌++◌, length, take, replicate, nat_le, IsTrue}
use Rattle.std.specs.List.{list_all}
use Rattle.lock_messages.specs.declared.names.TheConstants.{MAX_NAME_LEN}

-- a lower-case letter, a digit or a dash
abbrev pub is_name_byte : ℕ → Bool
is_name_byte b = (nat_le 97 b && nat_le b 122) || (nat_le 48 b && nat_le b 57) || (b == 45)

-- the bytes name a resource
pub record IsName (bytes : List ℕ) : Type 0 where
  pub not_empty : 0 < length bytes
  pub fits : length bytes ≤ MAX_NAME_LEN
  pub each : IsTrue (list_all is_name_byte bytes)

-- the name, and zeros up to the greatest length
abbrev pub padded : List ℕ → List ℕ
padded name = name ++ replicate (MAX_NAME_LEN - length name) 0

-- the first bytes of the room are a name, and the others are zeros
pub record HoldsName (room : List ℕ) (size : ℕ) : Type 0 where
  pub named : IsName (take size room)
  pub within : length (take size room) ≡ size
  pub rest : padded (take size room) ≡ room
