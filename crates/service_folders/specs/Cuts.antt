-- Texts, cut at a byte.
use Rattle.std.specs.Prelude.{ℕ, Bool, ◌==◌, List, [], ◌∷◌, Option, Some, None}
use Rattle.std.specs.List.{slice_split}
use Rattle.std.specs.Borrow.{Bor}

-- the byte at which a text is cut
abbrev pub is_byte : ℕ → ℕ → Bool
is_byte mark b = b == mark

-- what is after a byte, cut at each such byte, if anything is
abbrev pub split_behind : ℕ → Option (Bor (List ℕ)) → List (List ℕ)
split_behind mark None = []
split_behind mark (Some rest) = slice_split (is_byte mark) rest.now

-- the first of some pieces
abbrev pub first_of : List (List ℕ) → List ℕ
first_of [] = []
first_of (piece ∷ rest) = piece
