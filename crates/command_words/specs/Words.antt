-- The words that the program takes, and what is read of them.
use Rattle.std.specs.Prelude.{◌≡◌, ◌⊎◌, ℕ, ◌<◌, ◌^◌, Bool, true, List, [], ◌∷◌, Option, Some, None, SomeIff, Result, Ok, Err, codes, map, string_bytes}
use Rattle.std.specs.Str.Parse.{IsNumeral, without_leading_plus}
use Rattle.clap.specs.Words.{App, Shape, Rule, Row, all_of, one_of, first_of, with_rule, with_subcommand, subcommand_of, matches_of, HasKind, Kinds}
use Rattle.clap.specs.Simple.{new_shape}
use Rattle.clap.specs.declared.error.Error.{Error}
use Rattle.clap_arguments.specs.Arguments.{IsFlag, IsWord, AreWords, flag_rule, word_rule, words_rule, taking}
use Rattle.service_words.specs.Numbers.{number_value}
use Rattle.service_words.specs.Readings.{IsServiceName, ServiceBehind, MisusedBehind}
use Rattle.service_words.specs.Shapes.{with_services}
use Rattle.world_settings.specs.declared.commands.Command.{Command}
use Rattle.world_settings.specs.declared.commands.Command.TheVariants as command
use Rattle.program_ends.specs.declared.wording.Unserved.{Unserved}
use Rattle.program_ends.specs.Wordings.{IsUnserved}
use Rattle.command_words.specs.declared.reading.Asked.{Asked}
use Rattle.command_words.specs.declared.reading.Request.{Request}
use Rattle.command_words.specs.declared.reading.Request.TheVariants as request

-- The words that the program takes: one of `script`, `audit`, `ballot` and `run`, with `--explain` before it or
-- after it, or at both places, and after `run` also `--journal`; or `explain` or `record` and one word; or `merge`, words,
-- and `--judge` among them; or a command of a service and its words; or `help`. On either level help may be asked for by a flag, and on the upper one also the
-- version.

abbrev pub explain_rule : Rule
explain_rule = flag_rule (codes "explain")

-- without the flag and the commands
abbrev pub bare_app : App
bare_app = record {
  top = record (new_shape (codes "rwvote")) { has_version = true; subcommand_required = true };
  subs = [];
}

-- without the commands
abbrev pub top_app : App
top_app = with_rule bare_app explain_rule

-- a command that takes `--explain` and nothing else
abbrev pub command_shape : List ℕ → Shape
command_shape name = taking name explain_rule

abbrev pub run_shape : Shape
run_shape = record (new_shape (codes "run")) { rules = explain_rule ∷ flag_rule (codes "journal") ∷ [] }

-- the command that explains a number, and the one that prints what a file holds
abbrev pub explain_shape : Shape
explain_shape = taking (codes "explain") (word_rule (codes "number"))

abbrev pub record_shape : Shape
record_shape = taking (codes "record") (word_rule (codes "file"))

-- the command that merges journals, which are its words
abbrev pub merge_shape : Shape
merge_shape = record (new_shape (codes "merge")) { rules = flag_rule (codes "judge") ∷ words_rule (codes "journal") ∷ [] }

abbrev pub with_command : App → List ℕ → App
with_command a name = with_subcommand a (command_shape name)

-- the four commands that are served
abbrev pub served_app : App
served_app = with_subcommand (with_command (with_command (with_command top_app (codes "script")) (codes "audit")) (codes "ballot")) run_shape

-- with the commands that explain a number, merge journals, and print what a file holds
abbrev pub plain_app : App
plain_app = with_subcommand (with_subcommand (with_subcommand served_app explain_shape) merge_shape) record_shape

abbrev pub app : App
app = with_services plain_app

-- the name of a command that is served
abbrev pub IsName : List ℕ → Type 0
IsName name = (name ≡ codes "script") ⊎ ((name ≡ codes "audit") ⊎ ((name ≡ codes "ballot") ⊎ (name ≡ codes "run")))

-- the same, or the one that explains a number, merges journals, or prints what a file holds, or one of a service
abbrev pub IsRequest : List ℕ → Type 0
IsRequest name = IsName name ⊎ ((name ≡ codes "explain") ⊎ ((name ≡ codes "merge") ⊎ ((name ≡ codes "record") ⊎ IsServiceName name)))

abbrev pub NamesOne : Option (List ℕ) → Type 0
NamesOne None = ⊥
NamesOne (Some name) = IsRequest name

-- the command of a name, with what was found behind it
abbrev pub IsCommand : List ℕ → List Row → Command → Type 0
IsCommand name rows command.Script = name ≡ codes "script"
IsCommand name rows command.Audit = name ≡ codes "audit"
IsCommand name rows command.Ballot = name ≡ codes "ballot"
IsCommand name rows (command.Run journal) = (name ≡ codes "run") × IsFlag (one_of (codes "journal") rows) journal

-- What `clap` finds in the words: what stands in front of a command, and the command, by its name and what
-- stands behind it.
pub record FoundWords : Type 0 where
  pub front : List Row
  pub named : Option (List ℕ × List Row)

unfoldable pub found_in : List (List ℕ) → FoundWords
found_in words = record { front = matches_of app words; named = subcommand_of app words }

-- the command of a name, and whether `--explain` stands behind it
abbrev pub AsksBehind : List ℕ → List Row → Asked → Type 0
AsksBehind name rows a = IsCommand name rows a.command × IsFlag (one_of (codes "explain") rows) a.behind

-- A word that is a number: decimal digits, and below 2 ^ 16.
pub record IsNumber (text : List ℕ) : Type 0 where
  pub digits : IsNumeral 10 (without_leading_plus text)
  pub few : number_value text < 2 ^ 16

-- the number that is to be explained, if the word is one
abbrev pub TellsNumber : Option (List ℕ) → Option ℕ → Type 0
TellsNumber None r = r ≡ None
TellsNumber (Some text) r = SomeIff r (IsNumber text) (number_value text)

-- what is asked for by a name, what was found after it, and whether `--explain` is before it
abbrev pub RequestsBehind : Bool → List ℕ → List Row → Request → Type 0
RequestsBehind front name rows (request.Serve a) = AsksBehind name rows a × (a.front ≡ front)
RequestsBehind front name rows (request.Explain number) = (name ≡ codes "explain") × TellsNumber (first_of (codes "number") rows) number
RequestsBehind front name rows (request.Merge m) =
    (name ≡ codes "merge") × IsFlag (one_of (codes "judge") rows) m.judged × AreWords (all_of (codes "journal") rows) (map string_bytes m.names.items)
RequestsBehind front name rows (request.Record file) = (name ≡ codes "record") × IsWord (first_of (codes "file") rows) file.now
RequestsBehind front name rows (request.Service s) = ServiceBehind name rows s
RequestsBehind front name rows (request.Misused m) = MisusedBehind name rows m

-- the same of what was found
abbrev pub RequestsNamed : Bool → Option (List ℕ × List Row) → Request → Type 0
RequestsNamed front None r = ⊥
RequestsNamed front (Some named) r = RequestsBehind front named.0 named.1 r

abbrev pub Requests : Option (List ℕ × List Row) → List Row → Request → Type 0
Requests named front r = (set : Bool) × IsFlag (one_of (codes "explain") front) set × RequestsNamed set named r

-- what was found in the words
abbrev pub Names : FoundWords → Request → Type 0
Names found r = Requests found.named found.front r

-- How words were parsed that may fail by these kinds, or else name a command.
abbrev pub Parses : Kinds → FoundWords → Result Request Error → Type 0
Parses kinds found (Ok r) = (kinds ≡ []) × Names found r
Parses kinds found (Err e) = HasKind kinds e

-- The same, and what is to be said where no command is named.
abbrev pub ReadsWords : Kinds → FoundWords → Result Request Unserved → Type 0
ReadsWords kinds found (Ok r) = (kinds ≡ []) × Names found r
ReadsWords kinds found (Err u) = IsUnserved kinds u
