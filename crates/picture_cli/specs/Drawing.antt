-- What the drawing program does: what it finds of an input, what it draws of it, its status, and what it says.
-- Which marks a history has is said where they are made.
use Rattle.std.specs.Prelude.{◌≡◌, ◌⊎◌, ℕ, ◌==◌, if◌then◌else◌, List, [], ◌∷◌, ◌++◌, map, Option, Some, None, Result, Ok, Err}
use Rattle.std.specs.List.{range_with_len}
use Rattle.clap.specs.Words.{Row, Kinds, fault_of}
use Rattle.lock_messages.specs.declared.ids.Actor.TheVariants as actor
use Rattle.lock_model.specs.Ballots.{node_count}
use Rattle.world_model.specs.declared.exact.ExactWorld.{ExactWorld}
use Rattle.journal_audit.specs.declared.faults.AuditFault.{AuditFault}
use Rattle.journal_audit.specs.declared.faults.AuditFault.TheVariants as audit
use Rattle.journal_audit.specs.declared.verdicts.Verdict.{Verdict}
use Rattle.journal_audit.specs.declared.verdicts.Verdict.TheVariants.{Sound, Unsound}
use Rattle.journal_audit.specs.Audits.{found_in}
use Rattle.journal_audit.specs.Verdicts.{Finds, reaches, text_lines}
use Rattle.journal_picture.specs.declared.canvases.CanvasFault.{CanvasFault}
use Rattle.journal_picture.specs.declared.canvases.CanvasFault.TheVariants as canvas
use Rattle.journal_picture.specs.Drawings.{all_marks}
use Rattle.journal_picture.specs.Histories.{history_of}
use Rattle.journal_picture.specs.Strokes.{Stroke, with_strokes}
use Rattle.journal_picture.specs.Strokes as stroke
use Rattle.operator_cli.specs.declared.faults.ServeFault.{ServeFault}
use Rattle.operator_cli.specs.declared.faults.ServeFault.TheVariants as serving
use Rattle.world_settings.specs.declared.faults.SettingsFault.{SettingsFault}
use Rattle.world_settings.specs.declared.faults.SettingsFault.TheVariants as settings
use Rattle.world_settings.specs.declared.heads.StartFault.{StartFault}
use Rattle.world_settings.specs.declared.heads.StartFault.TheVariants as start
use Rattle.world_settings.specs.declared.commands.Command.TheVariants as command
use Rattle.world_settings.specs.Openings.{all_down}
use Rattle.operator_cli.specs.Outputs.{Output, output_of, refusal_output, verdict_output}
use Rattle.world_settings.specs.Heads.{opened}
use Rattle.world_settings.specs.Settings.{Given, Refuses}
use Rattle.world_settings.specs.declared.settings.Settings.{Settings}
use Rattle.run_picture.specs.declared.marks.Lasting.{Lasting}
use Rattle.run_picture.specs.declared.marks.Lasting.TheVariants as lasting
use Rattle.run_picture.specs.declared.marks.Part.{Part}
use Rattle.run_picture.specs.Pictures.{drawn_behind, end_place, opened as opened_drawer}
use Rattle.program_ends.specs.declared.ending.Ended.{Ended}
use Rattle.program_ends.specs.Endings.{Writers, EndsSaying, TellsFault, RefusesWords, EndsUnserved}
use Rattle.picture_cli.specs.declared.serving.Shown.{Shown}
use Rattle.picture_cli.specs.declared.serving.Shown.TheVariants as shown
use Rattle.picture_cli.specs.Words.{app, rows_in, NamesPart, NamesNone}

-- What is found of the lines behind settings is what an audit finds there, from the world in which all are down.
abbrev pub IsFoundBehind : Result (Given × List (List ℕ)) SettingsFault → Result Verdict AuditFault → Type 0
IsFoundBehind (Err e) r = ⊥
IsFoundBehind (Ok parts) r = found_in (all_down parts.0.settings) parts.1 ≡ r

-- the settings of an input that opens so are right
abbrev pub HasRightSettings : Result (Given × List (List ℕ)) SettingsFault → Type 0
HasRightSettings (Err e) = ⊥
HasRightSettings (Ok parts) = Unit {0}

-- What came of an input that opens so: the verdict on its lines; or its settings are refused; or they are too
-- many lines. That the picture can't be written is told as an audit tells it. Of the other faults it is said that
-- the settings are right, but of the one that they couldn't be read nothing is.
abbrev pub ShowsOpened : Result (Given × List (List ℕ)) SettingsFault → Result Shown ServeFault → Type 0
ShowsOpened opening (Ok (shown.Drawn v)) = IsFoundBehind opening (Ok v)
ShowsOpened opening (Ok (shown.Refused e)) = Refuses e opening
ShowsOpened opening (Err serving.Read) = Unit {0}
ShowsOpened opening (Err serving.Write) = ⊥
ShowsOpened opening (Err serving.Memory) = HasRightSettings opening
ShowsOpened opening (Err (serving.Audit audit.Read)) = HasRightSettings opening
ShowsOpened opening (Err (serving.Audit audit.Write)) = HasRightSettings opening
ShowsOpened opening (Err (serving.Audit audit.Memory)) = HasRightSettings opening
ShowsOpened opening (Err (serving.Audit audit.TooManyLines)) = IsFoundBehind opening (Err audit.TooManyLines)

-- the same, where the bytes are known: the input opens as that of an audit
abbrev pub ShowsInput : Option (List ℕ) → Result Shown ServeFault → Type 0
ShowsInput None r = Unit {0}
ShowsInput (Some input) r = ShowsOpened (opened command.Audit input) r

-- Something stays as it is where no picture is begun: settings are refused or couldn't be read, or there was no
-- memory for their world.
abbrev pub KeepsRefused : {A : Type 0} → Result Shown ServeFault → A → A → Type 0
KeepsRefused (Ok (shown.Drawn v)) old new = Unit {0}
KeepsRefused (Ok (shown.Refused e)) old new = new ≡ old
KeepsRefused (Err serving.Read) old new = new ≡ old
KeepsRefused (Err serving.Write) old new = Unit {0}
KeepsRefused (Err serving.Memory) old new = new ≡ old
KeepsRefused (Err (serving.Audit f)) old new = Unit {0}

-- Before the first line of a journal each node and each client is down.

abbrev pub node_down : ℕ → Lasting
node_down n = lasting.Down (actor.Node n)

abbrev pub client_down : ℕ → Lasting
client_down c = lasting.Down (actor.Client c)

abbrev pub down_at_first : ℕ → ℕ → List Lasting
down_at_first nodes clients = map node_down (range_with_len 1 nodes) ++ map client_down (range_with_len 1 clients)

-- What is done on a canvas for a part of what lines do from a world on, in which so many nodes and so many
-- clients are down: the picture of the part is begun with their columns, gets all marks of the history that the
-- lines tell, and is ended where that ends.
abbrev pub picture_behind : ExactWorld → ℕ → ℕ → Part → List (List ℕ) → Verdict → List Stroke
picture_behind w nodes clients p lines v =
    let first = opened_drawer p (down_at_first nodes clients) in
    let history = history_of w lines in
    stroke.Begun nodes clients p ∷ (map stroke.Marked (all_marks w first history v) ++ stroke.Ended (end_place (drawn_behind first history) (reaches v)) ∷ [])

-- the same of the lines behind settings, from the world in which all are down
abbrev pub picture_of : Settings → Part → List (List ℕ) → Verdict → List Stroke
picture_of s p lines v = picture_behind (all_down s) (node_count s.ballots) s.clients p lines v

-- the picture of a part of an input that opens so is drawn, and nothing else
abbrev pub DrawsOpened : Result (Given × List (List ℕ)) SettingsFault → Part → Option (List Stroke) → Option (List Stroke) → Verdict → Type 0
DrawsOpened (Err e) p old new v = ⊥
DrawsOpened (Ok parts) p old new v = new ≡ with_strokes (picture_of parts.0.settings p parts.1 v) old

-- the same, where the bytes are known
abbrev pub DrawsFound : Option (List ℕ) → Part → Option (List Stroke) → Option (List Stroke) → Verdict → Type 0
DrawsFound None p old new v = Unit {0}
DrawsFound (Some input) p old new v = DrawsOpened (opened command.Audit input) p old new v

-- What is drawn of a part of an input: its picture; or nothing, where settings are refused or couldn't be read, or
-- there was no memory for their world. Of a picture that was cut short by another fault nothing is said.
abbrev pub DrawsPart : Option (List ℕ) → Part → Option (List Stroke) → Option (List Stroke) → Result Shown ServeFault → Type 0
DrawsPart input p old new (Ok (shown.Drawn v)) = DrawsFound input p old new v
DrawsPart input p old new (Ok (shown.Refused e)) = new ≡ old
DrawsPart input p old new (Err serving.Read) = new ≡ old
DrawsPart input p old new (Err serving.Write) = Unit {0}
DrawsPart input p old new (Err serving.Memory) = new ≡ old
DrawsPart input p old new (Err (serving.Audit f)) = Unit {0}

-- What is told of what came of an input, and the status: what an audit prints, but that a sound journal needs
-- no word.
abbrev pub told_verdict : Verdict → Output
told_verdict (Sound n) = record { text = []; status = 0 }
told_verdict (Unsound number c) = verdict_output (Unsound number c)

abbrev pub told_shown : Shown → Output
told_shown (shown.Drawn v) = told_verdict v
told_shown (shown.Refused e) = refusal_output e

abbrev pub EndsTelling : Output → Option (List ℕ) → Option (List ℕ) → Ended → Type 0
EndsTelling o old new e = EndsSaying o.status o.text old new e

abbrev pub EndsShown : Result Shown ServeFault → Option (List ℕ) → Option (List ℕ) → Ended → Type 0
EndsShown (Ok s) old new e = EndsTelling (told_shown s) old new e
EndsShown (Err f) old new e = TellsFault f old new e

-- What was done on the page before, and what has been after.
pub record Page : Type 0 where
  pub old : Option (List Stroke)
  pub new : Option (List Stroke)

-- How the program ends that draws a part of an input, and what it draws: as what came of it has it.
abbrev pub DrawsInput : Option (List ℕ) → Part → Page → Writers → Ended → Type 0
DrawsInput input p page w e = (r : Result Shown ServeFault) × ShowsInput input r × DrawsPart input p page.old page.new r × KeepsRefused r w.old w.new × EndsShown r w.errors_old w.errors_new e

-- the part is the one that is named, or none is, which is wrong
abbrev pub DrawsNamed : List Row → Option (List ℕ) → Page → Writers → Ended → Type 0
DrawsNamed rows input page w e = ((p : Part) × NamesPart rows p × DrawsInput input p page w e) ⊎ (NamesNone rows × (page.new ≡ page.old) × RefusesWords w e)

-- What the program does with words that were read. `clap` says which are right, and of which kind the others
-- are: `fault_of` is empty where they are options and their values.
abbrev pub RunsBy : Option (List ℕ) → Kinds → List Row → Page → Writers → Ended → Type 0
RunsBy input kinds rows page w e = ((kinds ≡ []) × DrawsNamed rows input page w e) ⊎ EndsUnserved kinds w e

abbrev pub Runs : Option (List ℕ) → List (List ℕ) → Page → Writers → Ended → Type 0
Runs input words page w e = RunsBy input (fault_of app words) (rows_in words) page w e

-- What is told of an input that was drawn is what an audit prints of it, or nothing where that ends with 0; so is
-- the status. Or memory was refused for the settings.
abbrev pub unless_sound : Output → Output
unless_sound o = if o.status == 0 then record { text = []; status = 0 } else o

abbrev pub TellsAsAnAudit : Type 0
TellsAsAnAudit = (input : List ℕ) (s : Shown) → ShowsInput (Some input) (Ok s) → (told_shown s ≡ unless_sound (output_of command.Audit input)) ⊎ (s ≡ shown.Refused settings.Memory)

-- Parts of it: what the functions of a drawing owe one another. Who reads what `run` and `draw_journal` promise
-- has no need of them.

-- a fault of a canvas, as one of an audit
abbrev pub fault_on : CanvasFault → ServeFault
fault_on canvas.Write = serving.Audit audit.Write
fault_on canvas.Memory = serving.Audit audit.Memory

-- what is found of the lines that are left, from this world on
abbrev pub FindsBehind : ExactWorld → Option (List ℕ) → Result Verdict ServeFault → Type 0
FindsBehind w left (Ok v) = Finds w left (Ok v)
FindsBehind w left (Err serving.Read) = ⊥
FindsBehind w left (Err serving.Write) = ⊥
FindsBehind w left (Err serving.Memory) = Unit {0}
FindsBehind w left (Err (serving.Audit f)) = Finds w left (Err f)

-- the picture of the lines that are left is drawn, from this world on
abbrev pub DrawsBehind : ExactWorld → ℕ → ℕ → Part → Option (List ℕ) → Option (List Stroke) → Option (List Stroke) → Result Verdict ServeFault → Type 0
DrawsBehind w nodes clients p None old new r = Unit {0}
DrawsBehind w nodes clients p (Some text) old new (Ok v) = new ≡ with_strokes (picture_behind w nodes clients p (text_lines text) v) old
DrawsBehind w nodes clients p (Some text) old new (Err f) = Unit {0}

-- how a drawing ends that has no settings
abbrev pub RefusesStart : StartFault → Result Shown ServeFault → Type 0
RefusesStart start.Read r = r ≡ Err serving.Read
RefusesStart (start.Settings e) r = r ≡ Ok (shown.Refused e)
