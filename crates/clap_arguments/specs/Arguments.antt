-- The rules of arguments for `clap`, and what it finds of them.
use Rattle.std.specs.Prelude.{◌≡◌, Bool, true, false, ℕ, List, [], ◌∷◌, ◌++◌, Option, Some, None, codes}
use Rattle.clap.specs.Words.{Shape, Rule, new_rule}
use Rattle.clap.specs.Simple.{new_shape}
use Rattle.clap.specs.declared.builder.action.ArgAction.TheVariants.{Append, Set, SetTrue}

-- the flag of this name
abbrev pub flag_rule : List ℕ → Rule
flag_rule name = record (new_rule name) { long = Some name; action = Some SetTrue }

-- the option of this name, which has a value
abbrev pub option_rule : List ℕ → Rule
option_rule name = record (new_rule name) { long = Some name; value_names = 1; action = Some Set }

-- a word of a command, which is required
abbrev pub word_rule : List ℕ → Rule
word_rule name = record (new_rule name) { value_names = 1; required = true; action = Some Set }

-- the words of a command, at least one
abbrev pub words_rule : List ℕ → Rule
words_rule name = record (new_rule name) { value_names = 1; required = true; action = Some Append }

-- a command that takes one thing more
abbrev pub adding : Shape → Rule → Shape
adding s rule = record s { rules = s.rules ++ rule ∷ [] }

-- a command that takes one thing
abbrev pub taking : List ℕ → Rule → Shape
taking name rule = record (new_shape name) { rules = rule ∷ [] }

-- What `clap` finds of a flag: the text `true` if it is among the words, else `false` or nothing.
-- That clap finds no other text is said by clap's own contract.
pub record IsFlag (found : Option (List ℕ)) (set : Bool) : Type 0 where
  pub missing : found ≡ None → set ≡ false
  pub given : found ≡ Some (codes "true") → set ≡ true
  pub absent : found ≡ Some (codes "false") → set ≡ false

-- A word that is required is the one that was found. There is always one, since `clap` refuses the command without it.
abbrev pub IsWord : Option (List ℕ) → List ℕ → Type 0
IsWord None word = word ≡ codes ""
IsWord (Some text) word = word ≡ text

-- the words that were found, if there are some
abbrev pub AreWords : Option (List (List ℕ)) → List (List ℕ) → Type 0
AreWords None words = words ≡ []
AreWords (Some found) words = words ≡ found
