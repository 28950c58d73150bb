-- What an onlooker hears of the lines behind the settings.
use Rattle.std.specs.Prelude.{◌≡◌, ◌⊎◌, ℕ, List, [], ◌∷◌, ◌++◌, Option, Some, None, Result, Ok, Err}
use Rattle.lock_messages.specs.declared.tickets.Ticket.{Ticket}
use Rattle.world_model.specs.declared.events.Effect.{Effect}
use Rattle.world_model.specs.declared.events.StepFault.{StepFault}
use Rattle.world_model.specs.declared.events.StepFault.TheVariants as refusal
use Rattle.world_model.specs.declared.exact.ExactWorld.{ExactWorld}
use Rattle.world_model.specs.ExactWorlds.{Steps, step}
use Rattle.event_lines.specs.declared.faults.LineFault.{LineFault}
use Rattle.event_lines.specs.declared.lines.Line.{Line}
use Rattle.event_lines.specs.declared.lines.Line.TheVariants as line
use Rattle.line_streams.specs.Streams.{pieces, lines_in}
use Rattle.journal_audit.specs.Hearing.{Word, Happened, Asked, Bad, with_words, words_of, end_words}
use Rattle.journal_audit.specs.Verdicts.{verdict_of}
use Rattle.world_settings.specs.declared.commands.Command.{Command}
use Rattle.world_settings.specs.declared.commands.Command.TheVariants as command
use Rattle.world_settings.specs.declared.faults.SettingsFault.{SettingsFault}
use Rattle.world_settings.specs.declared.settings.Settings.{Settings}
use Rattle.world_settings.specs.Heads.{opened}
use Rattle.world_settings.specs.Openings.{all_down}
use Rattle.world_settings.specs.Settings.{Given}
use Rattle.operator_cli.specs.declared.faults.ServeFault.{ServeFault}
use Rattle.operator_cli.specs.Lines.{line_of}
use Rattle.operator_cli.specs.Openings.{all_risen}
use Rattle.operator_cli.specs.Outputs.{found, told}

-- What a line of a script comes to: an event has its effect or its lowest refusal, a query is refused where it names a
-- node that isn't there.
abbrev pub came_of : Steps → Result Effect StepFault
came_of (Ok s) = Ok s.effect
came_of (Err f) = Err f

abbrev pub answered : Option (List Ticket) → Result (Unit {0}) StepFault
answered (Some tickets) = Ok tt
answered None = Err refusal.UnknownActor

abbrev pub word_of : ExactWorld → Line → Word
word_of w (line.Event e) = Happened e (came_of (step w e))
word_of w (line.Query q) = Asked q (answered (found q w))

-- of the lines of a script each, up to the first that is neither
abbrev pub said_words : ExactWorld → Result Line LineFault → (ExactWorld → List Word) → List Word
said_words w (Err f) rest = Bad f ∷ []
said_words w (Ok l) rest = word_of w l ∷ rest (told w l).world

abbrev pub script_words : ExactWorld → List (List ℕ) → List Word
script_words w [] = []
script_words w (l ∷ ls) = said_words w (line_of l) (λ v. script_words v ls)

-- of the lines of a journal those up to the verdict's, and of a sound one how many they are
abbrev pub journal_words : ExactWorld → List (List ℕ) → List Word
journal_words w lines = words_of w lines ++ end_words (verdict_of w lines)

-- what is heard for a command with these settings of the lines behind them
abbrev pub behind_words : Command → Settings → List (List ℕ) → List Word
behind_words command.Script s lines = script_words (all_risen s) lines
behind_words command.Audit s lines = journal_words (all_down s) lines
behind_words command.Ballot s lines = []
behind_words (command.Run journal) s lines = []

abbrev pub command_words : Command → Result (Given × List (List ℕ)) SettingsFault → List Word
command_words c (Err e) = []
command_words c (Ok parts) = behind_words c parts.0.settings parts.1

-- This was heard of the lines of known bytes, and nothing else, where a status is answered.
abbrev pub HearsAs : (List (List ℕ) → List Word) → Option (List ℕ) → Option (List Word) → Option (List Word) → Result ℕ ServeFault → Type 0
HearsAs words None old new r = Unit {0}
HearsAs words (Some xs) old new (Err f) = Unit {0}
HearsAs words (Some xs) old new (Ok status) = new ≡ with_words (words (lines_in (pieces xs))) old

-- The same of a whole input: what there is to hear behind its settings; or nothing, where memory was refused for them,
-- which is told with 2.
abbrev pub HearsInput : Command → Option (List ℕ) → Option (List Word) → Option (List Word) → Result ℕ ServeFault → Type 0
HearsInput c None old new r = Unit {0}
HearsInput c (Some xs) old new (Err f) = Unit {0}
HearsInput c (Some xs) old new (Ok status) = (new ≡ with_words (command_words c (opened c xs)) old) ⊎ ((new ≡ old) × (status ≡ 2))
