-- Answers that are gone over one after another.
use native.Mathlib.Omega.{arith}
use Rattle.std.proofs.Common.{◌<◌, ◌≤◌, ℕ, suc, List, length, take, drop, slice_index_or, All, Bool, Option, None, sym, subst}
use Rattle.std.proofs.lemmas.List.{take_all, length-take-le}
use Rattle.std.proofs.Math.Seq.{split_at}
use Rattle.test_outcomes.specs.Answers.{IsRight, IsNotRight, TellsTheFirst}
use Rattle.test_outcomes.specs.declared.failures.Failure.{Failure}

-- One that isn't right is told as the first, where those before it are right.
pub first : (answers : List (Option Bool)) (row : ℕ) (told : Failure) → row < length answers → All IsRight (take row answers) →
    IsNotRight (slice_index_or answers row None) row told → TellsTheFirst answers told
first answers row told within right wrong = (
  take row answers,
  slice_index_or answers row None,
  drop (suc row) answers,
  split_at answers row None within,
  right,
  subst (λ n. IsNotRight (slice_index_or answers row None) n told) (sym (length-take-le row answers (omega (arith, within)))) wrong,
)

-- All are right once none is left.
pub all : (answers : List (Option Bool)) (row : ℕ) → length answers ≤ row → All IsRight (take row answers) → All IsRight answers
all answers row over right = subst (All IsRight) (take_all row answers over) right
