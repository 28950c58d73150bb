-- The bytes of a plate, and what writing makes of them.
use Rattle.std.specs.Prelude.{◌≡◌, ℕ, ◌+◌, List, length, take, drop}

-- all the bytes that a plate has, from its first on
abbrev pub Image : Type 0
Image = List ℕ

-- n of them, from a place on
abbrev pub part : ℕ → ℕ → Image → List ℕ
part at n image = take n (drop at image)

-- outside n bytes from a place on the two images are the same; within, the new one has any bytes
pub record DiffersWithin (at n : ℕ) (old new : Image) : Type 0 where
  pub before : take at new ≡ take at old
  pub behind : drop (at + n) new ≡ drop (at + n) old
  pub length : length new ≡ length old

-- the new image is the old one with these bytes from a place on
pub record IsWritten (at : ℕ) (bytes : List ℕ) (old new : Image) : Type 0 where
  pub outside : DiffersWithin at (length bytes) old new
  pub inside : part at (length bytes) new ≡ bytes
