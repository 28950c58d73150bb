-- Words that are numbers, and those that name a problem.
use Rattle.std.specs.Prelude.{◌≡◌, ℕ, ◌<◌, ◌≤◌, ◌^◌, List, Option, Some, None, codes}
use Rattle.std.specs.Str.Parse.{IsNumeral, digits_value, without_leading_plus}
use Rattle.lock_messages.specs.Ids.{IsNode, IsClient}
use Rattle.lock_model.specs.declared.problems.Problem.{Problem}
use Rattle.lock_model.specs.declared.problems.Problem.TheVariants.{First, Second}

-- the number that the decimal digits of a word are
abbrev pub number_value : List ℕ → ℕ
number_value text = digits_value 10 (without_leading_plus text)

-- decimal digits, the number of a node
pub record IsNodeWord (text : List ℕ) : Type 0 where
  pub digits : IsNumeral 10 (without_leading_plus text)
  pub node : IsNode (number_value text)

-- the number of a client
pub record IsClientWord (text : List ℕ) : Type 0 where
  pub digits : IsNumeral 10 (without_leading_plus text)
  pub client : IsClient (number_value text)

-- seconds, at least 1 and below 2 ^ 32
pub record IsSecondsWord (text : List ℕ) : Type 0 where
  pub digits : IsNumeral 10 (without_leading_plus text)
  pub some : 1 ≤ number_value text
  pub few : number_value text < 2 ^ 32

-- the problem that a text names, if it names one
abbrev pub TellsProblem : List ℕ → Option Problem → Type 0
TellsProblem text (Some First) = text ≡ codes "1"
TellsProblem text (Some Second) = text ≡ codes "2"
TellsProblem text None = (text ≡ codes "1" → ⊥) × (text ≡ codes "2" → ⊥)
