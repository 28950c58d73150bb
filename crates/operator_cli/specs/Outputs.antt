-- What the program writes for an input, and its status.
use Rattle.std.specs.Prelude.{◌≡◌, ◌⊎◌, ℕ, ◌+◌, ◌<◌, ◌≤◌, Bool, true, false, if◌then◌else◌, List, [], ◌∷◌, ◌++◌, Option, Some, None, Result, Ok, Err}
use Rattle.std.specs.Io.KnownBytes.{Appends}
use Rattle.lock_messages.specs.declared.tickets.Ticket.{Ticket}
use Rattle.world_model.specs.declared.events.StepFault.{StepFault}
use Rattle.world_model.specs.declared.events.StepFault.TheVariants as refusal
use Rattle.world_model.specs.declared.exact.ExactWorld.{ExactWorld}
use Rattle.world_model.specs.ExactWorlds.{Steps, step}
use Rattle.vote_weights.specs.Faults.{fault_number as ballot_fault_number}
use Rattle.world_model.specs.Faults.{fault_number}
use Rattle.world_model.specs.Views.{inside, waiting, holding}
use Rattle.event_lines.specs.declared.faults.LineFault.{LineFault}
use Rattle.operator_cli.specs.declared.faults.ServeFault.{ServeFault}
use Rattle.operator_cli.specs.declared.faults.ServeFault.TheVariants as serving
use Rattle.world_settings.specs.declared.faults.SettingsFault.{SettingsFault}
use Rattle.world_settings.specs.declared.faults.SettingsFault.TheVariants as settings
use Rattle.event_lines.specs.declared.lines.Line.{Line}
use Rattle.event_lines.specs.declared.lines.Line.TheVariants as line
use Rattle.event_lines.specs.declared.lines.Query.{Query}
use Rattle.event_lines.specs.declared.lines.Query.TheVariants as query
use Rattle.world_settings.specs.declared.settings.Settings.{Settings}
use Rattle.event_lines.specs.Faults.{line_fault_number}
use Rattle.journal_audit.specs.declared.faults.AuditFault.TheVariants as audit
use Rattle.journal_audit.specs.declared.verdicts.TheConstants.{MAX_LINES}
use Rattle.journal_audit.specs.declared.verdicts.Verdict.{Verdict}
use Rattle.journal_audit.specs.declared.verdicts.Verdict.TheVariants.{Sound, Unsound}
use Rattle.journal_audit.specs.Verdicts.{verdict_of, verdict_text, reaches}
use Rattle.world_settings.specs.declared.commands.Command.{Command}
use Rattle.world_settings.specs.declared.commands.Command.TheVariants as command
use Rattle.world_settings.specs.Faults.{settings_fault_number}
use Rattle.operator_cli.specs.Lines.{line_of}
use Rattle.operator_cli.specs.Openings.{all_risen}
use Rattle.world_settings.specs.Openings.{all_down}
use Rattle.line_streams.specs.Streams.{AppendsBeginning, AppendsPart}
use Rattle.world_settings.specs.Heads.{opened}
use Rattle.world_settings.specs.Settings.{Given}
use Rattle.operator_cli.specs.Texts.{effect_text, refused_text, answer_text, line_fault_text, settings_fault_text, ballots_text}

-- What one event or query prints, whether it was refused, and the world after it.
pub record Told : Type 0 where
  pub text : List ℕ
  pub refused : Bool
  pub world : ExactWorld

-- a refusal, which leaves the world as it was
abbrev pub told_refusal : ExactWorld → StepFault → Told
told_refusal w e = record { text = refused_text (fault_number e); refused = true; world = w }

-- an event: its effect, or its lowest refusal
abbrev pub told_step : ExactWorld → Steps → Told
told_step w (Ok s) = record { text = effect_text s.world.sent s.effect; refused = false; world = s.world }
told_step w (Err e) = told_refusal w e

-- the tickets that a query asks for; none at all where it names a node that isn't there
abbrev pub found : Query → ExactWorld → Option (List Ticket)
found (query.Inside x) w = Some (inside x w)
found (query.Waiting n x) w = waiting n x w
found (query.Holding n x) w = holding n x w

-- a query: the tickets, or that there is no such node
abbrev pub told_query : ExactWorld → Query → Option (List Ticket) → Told
told_query w q (Some ts) = record { text = answer_text q ts; refused = false; world = w }
told_query w q None = told_refusal w refusal.UnknownActor

abbrev pub told : ExactWorld → Line → Told
told w (line.Event e) = told_step w (step w e)
told w (line.Query q) = told_query w q (found q w)

-- what is written, and the status
pub record Output : Type 0 where
  pub text : List ℕ
  pub status : ℕ

-- what is told first, and then the rest; the status is 1 where anything was refused
abbrev pub before : Told → Output → Output
before t rest = record { text = t.text ++ rest.text; status = if t.refused then 1 else rest.status }

-- a bad line ends the output
abbrev pub line_output : ExactWorld → ℕ → Result Line LineFault → (ExactWorld → Output) → Output
line_output w number (Err e) rest = record { text = line_fault_text number (line_fault_number e); status = 1 }
line_output w number (Ok l) rest = let t = told w l in before t (rest t.world)

-- the output of the lines, of which the first has this number
abbrev pub lines_output : ExactWorld → ℕ → List (List ℕ) → Output
lines_output w number [] = record { text = []; status = 0 }
lines_output w number (l ∷ ls) = line_output w number (line_of l) (λ v. lines_output v (number + 1) ls)

-- refused settings print their fault and nothing else
abbrev pub refusal_output : SettingsFault → Output
refusal_output e = record { text = settings_fault_text (settings_fault_number e); status = 2 }

-- Where the ballot is asked for, votes that make none are an answer.
abbrev pub refused_ballot_output : SettingsFault → Output
refused_ballot_output settings.NoEnd = refusal_output settings.NoEnd
refused_ballot_output settings.NoDocument = refusal_output settings.NoDocument
refused_ballot_output settings.UnknownKey = refusal_output settings.UnknownKey
refused_ballot_output settings.Value = refusal_output settings.Value
refused_ballot_output (settings.Ballot f) = record { text = refused_text (ballot_fault_number f); status = 1 }
refused_ballot_output (settings.Weather f) = refusal_output (settings.Weather f)
refused_ballot_output (settings.Wish f) = refusal_output (settings.Wish f)
refused_ballot_output settings.Memory = refusal_output settings.Memory

abbrev pub refused_output : Command → SettingsFault → Output
refused_output command.Script e = refusal_output e
refused_output command.Audit e = refusal_output e
refused_output command.Ballot e = refused_ballot_output e
refused_output (command.Run journal) e = refusal_output e

-- the verdict on a journal, which is a refusal unless it is sound
abbrev pub verdict_status : Verdict → ℕ
verdict_status (Sound n) = 0
verdict_status (Unsound number c) = 1

abbrev pub verdict_output : Verdict → Output
verdict_output v = record { text = verdict_text v; status = verdict_status v }

-- What each command writes for settings and the lines behind them: what a script prints from the world
-- in which all have risen; the verdict on a journal from the world in which all are down; or what the
-- ballot is, whatever the lines are. A run of all parts isn't told by its settings: what it writes is no
-- function of them, and is said where it is served.
abbrev pub settings_output : Command → Settings → List (List ℕ) → Output
settings_output command.Script s lines = lines_output (all_risen s) 1 lines
settings_output command.Audit s lines = verdict_output (verdict_of (all_down s) lines)
settings_output command.Ballot s lines = record { text = ballots_text s.ballots; status = 0 }
settings_output (command.Run journal) s lines = record { text = []; status = 0 }

abbrev pub command_output : Command → Result (Given × List (List ℕ)) SettingsFault → Output
command_output c (Err e) = refused_output c e
command_output c (Ok parts) = settings_output c parts.0.settings parts.1

-- The output of a command: what it writes for these bytes, and its status.
unfoldable pub output_of : Command → List ℕ → Output
output_of c input = command_output c (opened c input)

-- The output was written, and the status is its own; after a fault a beginning of it was written.
abbrev pub Writes : Output → Option (List ℕ) → Option (List ℕ) → Result ℕ ServeFault → Type 0
Writes o old new (Ok status) = Appends old new o.text × (status ≡ o.status)
Writes o old new (Err e) = AppendsBeginning old new o.text

-- The same where nothing but the writer can fail, and then not all was written.
abbrev pub Prints : Output → Option (List ℕ) → Option (List ℕ) → Result ℕ ServeFault → Type 0
Prints o old new (Ok status) = Appends old new o.text × (status ≡ o.status)
Prints o old new (Err e) = (e ≡ serving.Write) × AppendsPart old new o.text

-- the faults by which each command may end
abbrev pub IsCommonFault : ServeFault → Type 0
IsCommonFault serving.Read = Unit {0}
IsCommonFault serving.Write = Unit {0}
IsCommonFault serving.Memory = Unit {0}
IsCommonFault (serving.Audit f) = ⊥

-- the faults by which a command may end: those of an audit only where a journal is judged
abbrev pub MayEndBy : Command → ServeFault → Type 0
MayEndBy command.Script f = IsCommonFault f
MayEndBy command.Audit f = Unit {0}
MayEndBy command.Ballot f = IsCommonFault f
MayEndBy (command.Run journal) f = IsCommonFault f

-- the commands that `serve` takes: all but the run of all parts
abbrev pub IsServed : Command → Type 0
IsServed command.Script = Unit {0}
IsServed command.Audit = Unit {0}
IsServed command.Ballot = Unit {0}
IsServed (command.Run journal) = ⊥

-- How the greatest number of lines limits the audit of a journal: a status is answered only where the
-- verdict speaks of no line behind it, and the fault of too many lines only where it does.
abbrev pub KeepsLimit : Verdict → Result ℕ ServeFault → Type 0
KeepsLimit v (Ok status) = reaches v ≤ MAX_LINES
KeepsLimit v (Err serving.Read) = Unit {0}
KeepsLimit v (Err serving.Write) = Unit {0}
KeepsLimit v (Err serving.Memory) = Unit {0}
KeepsLimit v (Err (serving.Audit audit.Read)) = Unit {0}
KeepsLimit v (Err (serving.Audit audit.Write)) = Unit {0}
KeepsLimit v (Err (serving.Audit audit.Memory)) = Unit {0}
KeepsLimit v (Err (serving.Audit audit.TooManyLines)) = MAX_LINES < reaches v

abbrev pub IsLimited : Command → Settings → List (List ℕ) → Result ℕ ServeFault → Type 0
IsLimited command.Script s lines r = Unit {0}
IsLimited command.Audit s lines r = KeepsLimit (verdict_of (all_down s) lines) r
IsLimited command.Ballot s lines r = Unit {0}
IsLimited (command.Run journal) s lines r = Unit {0}

-- Refused settings end a run so: nothing but the reader fails before they are told, and nothing but the writer as they
-- are.
abbrev pub EndsRefused : Output → Option (List ℕ) → Option (List ℕ) → Result ℕ ServeFault → Type 0
EndsRefused o old new r = Prints o old new r ⊎ ((r ≡ Err serving.Read) × (new ≡ old))

abbrev pub IsLimitedIn : Command → Result (Given × List (List ℕ)) SettingsFault → Option (List ℕ) → Option (List ℕ) → Result ℕ ServeFault → Type 0
IsLimitedIn c (Err e) old new r = EndsRefused (refused_output c e) old new r
IsLimitedIn c (Ok parts) old new r = IsLimited c parts.0.settings parts.1 r

-- What `serve` does for a command with known bytes: it writes their output and answers its status or,
-- where memory was refused for the settings, the line that says so and 2. After a fault a beginning of
-- it was written. Of a journal the greatest number of lines is kept.
abbrev pub Serves : Command → Option (List ℕ) → Option (List ℕ) → Option (List ℕ) → Result ℕ ServeFault → Type 0
Serves c None old new r = Unit {0}
Serves c (Some input) old new r = (Writes (output_of c input) old new r × IsLimitedIn c (opened c input) old new r) ⊎ Prints (refusal_output settings.Memory) old new r
