-- How a program ends: its status, what it wrote, and what it said on the second writer.
use Rattle.std.specs.Prelude.{◌≡◌, ◌⊎◌, ℕ, Bool, true, false, List, ◌++◌, Option, codes, string_bytes}
use Rattle.std.specs.Fmt.{decimal}
use Rattle.std.specs.Io.KnownBytes.{Keeps, Appends}
use Rattle.line_streams.specs.Streams.{AppendsPart}
use Rattle.operator_cli.specs.declared.faults.ServeFault.{ServeFault}
use Rattle.operator_cli.specs.declared.faults.ServeFault.TheVariants as fault
use Rattle.operator_cli.specs.Faults.{serve_fault_number}
use Rattle.clap.specs.Words.{Kinds}
use Rattle.program_ends.specs.declared.ending.Ended.{Ended}
use Rattle.program_ends.specs.declared.wording.Sort.TheVariants as sort
use Rattle.program_ends.specs.declared.wording.Unserved.{Unserved}
use Rattle.program_ends.specs.declared.wording.Unserved.TheVariants as unserved
use Rattle.program_ends.specs.Wordings.{HasSort}

-- A text went to the second writer: all of it, or a beginning and not all.
abbrev pub Says : Option (List ℕ) → Option (List ℕ) → List ℕ → Bool → Type 0
Says old new text true = Appends old new text
Says old new text false = AppendsPart old new text

-- `fault 933`
abbrev pub fault_text : ServeFault → List ℕ
fault_text f = codes "fault " ++ decimal (serve_fault_number f) ++ codes "\n"

-- a text was said there, and the program ends with this status
abbrev pub EndsSaying : ℕ → List ℕ → Option (List ℕ) → Option (List ℕ) → Ended → Type 0
EndsSaying status text old new e = (e.status ≡ status) × Says old new text e.told

-- A fault is told on the second writer, and the status is 1.
abbrev pub TellsFault : ServeFault → Option (List ℕ) → Option (List ℕ) → Ended → Type 0
TellsFault f old new e = EndsSaying 1 (fault_text f) old new e

-- What is said of a command-line argument that is not UTF-8.
abbrev pub no_text_words : List ℕ
no_text_words = codes "error: a command-line argument is not UTF-8 text\n\nFor more information, try '--help'.\n"

-- How a program ends whose words could not be taken: memory was refused, or else a word is not UTF-8.
pub record EndsUnread (IsMemory : Type 0) (old new : Option (List ℕ)) (e : Ended) : Type 0 where
  pub memory : IsMemory → TellsFault fault.Memory old new e
  pub words : (IsMemory → ⊥) → EndsSaying 2 no_text_words old new e

-- What the first writer had before and has after, and the second.
pub record Writers : Type 0 where
  pub old : Option (List ℕ)
  pub new : Option (List ℕ)
  pub errors_old : Option (List ℕ)
  pub errors_new : Option (List ℕ)

-- A text went to the first writer, and the status is 0; or not all of it did, which is told as a fault.
abbrev pub Shows : List ℕ → Writers → Ended → Type 0
Shows text w e =
    (Appends w.old w.new text × (e.status ≡ 0) × (e.told ≡ true) × Keeps w.errors_old w.errors_new)
    ⊎ (AppendsPart w.old w.new text × TellsFault fault.Write w.errors_old w.errors_new e)

-- the text is one of `clap`
abbrev pub ShowsHelp : Writers → Ended → Type 0
ShowsHelp w e = (text : List ℕ) × Shows text w e

-- the words are refused by some text
abbrev pub RefusesWords : Writers → Ended → Type 0
RefusesWords w e = (text : List ℕ) × Keeps w.old w.new × EndsSaying 2 text w.errors_old w.errors_new e

-- memory was refused while the words were read
abbrev pub LacksMemory : Writers → Ended → Type 0
LacksMemory w e = Keeps w.old w.new × TellsFault fault.Memory w.errors_old w.errors_new e

-- How a program ends that finds nothing to serve in its words, by what there is to say of them: its text is
-- shown, or refuses them.
abbrev pub EndsFor : Unserved → Writers → Ended → Type 0
EndsFor unserved.NoMemory w e = LacksMemory w e
EndsFor (unserved.Help text) w e = Shows (string_bytes text) w e
EndsFor (unserved.Wrong text) w e = Keeps w.old w.new × EndsSaying 2 (string_bytes text) w.errors_old w.errors_new e

-- How a program ends that finds nothing to serve in its words, for which `clap` has these kinds of faults: it
-- lacked memory, or help is asked for, or they are wrong.
abbrev pub EndsUnserved : Kinds → Writers → Ended → Type 0
EndsUnserved kinds w e = LacksMemory w e ⊎ ((HasSort sort.Help kinds × ShowsHelp w e) ⊎ (HasSort sort.Wrong kinds × RefusesWords w e))
