-- Whose a berth is.
use Rattle.std.specs.Prelude.{◌≡◌}
use Rattle.history_book.specs.Books.{BookValue, BerthValue}

-- the berth is the book's own
pub record IsOf (b : BookValue) (k : BerthValue) : Type 0 where
  pub number : k.number ≡ b.number
  pub table : k.table ≡ b.table
