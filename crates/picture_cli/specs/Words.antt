-- The words that the drawing program takes, and the part of a journal that they name.
use Rattle.std.specs.Prelude.{◌≡◌, ℕ, ◌≤◌, ◌<◌, ◌^◌, true, List, [], Option, Some, None, Result, Ok, Err, SomeIff, codes}
use Rattle.std.specs.Str.Parse.{IsNumeral, digits_value, without_leading_plus}
use Rattle.clap.specs.Words.{App, Rule, Row, Kinds, first_of, matches_of, new_app, new_rule, with_rule}
use Rattle.clap.specs.declared.builder.action.ArgAction.TheVariants.{Set}
use Rattle.lock_messages.specs.Names.{IsName}
use Rattle.run_picture.specs.declared.marks.Part.{Part}
use Rattle.program_ends.specs.Wordings.{IsUnserved}
use Rattle.picture_cli.specs.declared.reading.Undrawn.{Undrawn}
use Rattle.picture_cli.specs.declared.reading.Undrawn.TheVariants as undrawn

-- the option of this name, which takes one value
abbrev pub option_rule : List ℕ → Rule
option_rule name = record (new_rule name) { long = Some name; action = Some Set; value_names = 1 }

-- without the options
abbrev pub bare_app : App
bare_app = record {
  top = record (new_app (codes "rwdraw")).top { has_version = true };
  subs = [];
}

-- `--from`, `--to` and `--resource`; beside them help and the version may be asked for
abbrev pub app : App
app = with_rule (with_rule (with_rule bare_app (option_rule (codes "from"))) (option_rule (codes "to"))) (option_rule (codes "resource"))

-- what `clap` finds in the words
unfoldable pub rows_in : List (List ℕ) → List Row
rows_in words = matches_of app words

-- The number of a line: in decimal digits, from 1 on, and below 2 ^ 32.
abbrev pub line_number : List ℕ → ℕ
line_number text = digits_value 10 (without_leading_plus text)

pub record IsLine (text : List ℕ) : Type 0 where
  pub digits : IsNumeral 10 (without_leading_plus text)
  pub few : line_number text < 2 ^ 32
  pub some : 0 < line_number text

-- What an option's value tells, if it is one that the option takes: the number of a line, or the name of a
-- resource; and what it is where the option is absent.
abbrev pub TellsLine : ℕ → Option (List ℕ) → Option ℕ → Type 0
TellsLine absent None r = r ≡ Some absent
TellsLine absent (Some text) r = SomeIff r (IsLine text) (line_number text)

abbrev pub TellsName : Option (List ℕ) → Option (Option (List ℕ)) → Type 0
TellsName None r = r ≡ Some None
TellsName (Some text) r = SomeIff r (IsName text) (Some text)

-- the greatest number of a line
abbrev pub last_number : ℕ
last_number = 4294967295

-- The part that is named: from the one line up to the other, which is none before it, and the resource.
pub record NamesPart (rows : List Row) (p : Part) : Type 0 where
  pub first : TellsLine 1 (first_of (codes "from") rows) (Some p.first)
  pub last : TellsLine last_number (first_of (codes "to") rows) (Some p.last)
  pub order : p.first ≤ p.last
  pub resource : TellsName (first_of (codes "resource") rows) (Some p.resource)

-- no part is named: a value is none that its option takes, or the last line is before the first
abbrev pub NamesNone : List Row → Type 0
NamesNone rows = (p : Part) → NamesPart rows p → ⊥

-- How words were read, for which `clap` has these kinds of faults, and where it finds this.
abbrev pub ReadsPart : Kinds → List Row → Result Part Undrawn → Type 0
ReadsPart kinds rows (Ok p) = (kinds ≡ []) × NamesPart rows p
ReadsPart kinds rows (Err (undrawn.Unserved why)) = IsUnserved kinds why
ReadsPart kinds rows (Err (undrawn.Value text)) = (kinds ≡ []) × NamesNone rows

-- the same of what was found alone
abbrev pub TellsPart : List Row → Result Part Undrawn → Type 0
TellsPart rows (Ok p) = NamesPart rows p
TellsPart rows (Err (undrawn.Unserved why)) = ⊥
TellsPart rows (Err (undrawn.Value text)) = NamesNone rows
