-- What policies are: their problem's number, and the tally of what one was told.
-- A pair of policies has no meaning of its own: contracts see its two halves, each a policy or none.
use Rattle.std.specs.Prelude.{ℕ, ◌+◌, Bool, true, false, min}
use Rattle.lock_model.specs.declared.problems.Problem.{Problem}
use Rattle.lock_model.specs.declared.problems.Problem.TheVariants.{First, Second}

-- the number of a problem, by which settings and records name it
abbrev pub problem_number : Problem → ℕ
problem_number First = 1
problem_number Second = 2

-- the greatest number that a tally reaches
abbrev pub most_notes : ℕ
most_notes = 18446744073709551615

-- one note more, up to the greatest number
abbrev pub noted : ℕ → ℕ
noted n = min (n + 1) most_notes

-- the tally, of those that were admitted and those that weren't, after one more
abbrev pub tally_after : Bool → ℕ × ℕ → ℕ × ℕ
tally_after true t = (noted t.0, t.1)
tally_after false t = (t.0, noted t.1)

-- a policy, and the tally of the notes that it was given
pub record Tallied (P : Type 0) : Type 0 where
  pub policy : P
  pub tally : ℕ × ℕ
