-- Which answer ends a test.
use Rattle.std.specs.Prelude.{◌≡◌, ◌⊎◌, ℕ, Bool, true, false, List, ◌∷◌, ◌++◌, length, Option, Some, None, All}
use Rattle.test_outcomes.specs.declared.failures.Failure.{Failure}
use Rattle.test_outcomes.specs.declared.failures.Failure.TheVariants as failure

-- The answer to a row is right.
abbrev pub IsRight : Option Bool → Type 0
IsRight answer = answer ≡ Some true

-- It is wrong, or there is none, which is told by the row's number.
abbrev pub IsNotRight : Option Bool → ℕ → Failure → Type 0
IsNotRight answer row told =
    ((answer ≡ Some false) × (told ≡ failure.Wrong row)) ⊎ ((answer ≡ None) × (told ≡ failure.NoAnswer row))

-- The first of the answers that isn't right is told, by its place.
abbrev pub TellsTheFirst : List (Option Bool) → Failure → Type 0
TellsTheFirst answers told =
    (before : List (Option Bool)) × (answer : Option Bool) × (behind : List (Option Bool))
    × (answers ≡ before ++ answer ∷ behind) × All IsRight before × IsNotRight answer (length before) told
