-- Cutting a list at the elements that pass a test.
use Rattle.std.proofs.Common.{◌≡◌, ℕ, ◌+◌, ◌≤◌, Bool, true, false, cond, List, [], ◌∷◌, length, take, drop, Some, None, refl, arith}
use Rattle.std.specs.List.{slice_split, count_by, position, position_or_len}
use Rattle.std.proofs.lemmas.List.Splits.{slice_split_first, slice_split_none, length-slice_split}
use Rattle.std.proofs.lemmas.List.Sums.{fails_before_first}
use Rattle.std.proofs.lemmas.Option.{cond_some}
use Rattle.std.proofs.lemmas.Bool.{ltb-true, ltb-false}

parted : {X : Type 0} (xs : List X) (n : ℕ) → length xs ≡ n + 1 → (y : X) × (ys : List X) × (xs ≡ y ∷ ys)
parted [] n h = absurd (omega (arith, h))
parted (y ∷ ys) n h = (y, ys, refl)

-- a list has a first part
pub some_part : {X : Type 0} (p : X → Bool) (xs : List X) → (q : List X) × (qs : List (List X)) × (slice_split p xs ≡ q ∷ qs)
some_part p xs = parted (slice_split p xs) (count_by p xs) (length-slice_split p xs)

cond_none : {A : Type 0} (b : Bool) (x : A) → cond b (Some x) None ≡ None → b ≡ false
cond_none true x h = cc
cond_none false x h = refl

-- where no element passes, the list is the one part
pub split_none : {X : Type 0} (p : X → Bool) (xs : List X) → position p xs ≡ None → slice_split p xs ≡ xs ∷ []
split_none p xs h =
    let far : length xs ≤ position_or_len p xs = ltb-false _ _ (cond_none _ _ h) in
    slice_split_none p xs (λ k d inside. fails_before_first p xs k d (omega arith))

-- else the first part ends at the first that does
pub split_some : {X : Type 0} (p : X → Bool) (xs : List X) (at : ℕ) (d : X) → position p xs ≡ Some at → slice_split p xs ≡ take at xs ∷ slice_split p (drop (at + 1) xs)
split_some p xs at d h =
    let found = cond_some _ _ _ h in
    rw (← found.1) (slice_split_first p xs d (ltb-true _ _ found.0))
