-- What comes of a merge that begins with settings, what is written, and the status.
use Rattle.std.specs.Prelude.{◌≡◌, ◌⊎◌, ℕ, Bool, true, false, List, ◌++◌, length, Option, Some, None, Result, Ok, Err, codes}
use Rattle.std.specs.Fmt.{decimal}
use Rattle.std.specs.Io.KnownBytes.{Keeps, Appends}
use Rattle.world_model.specs.declared.events.Effect.{Effect}
use Rattle.world_model.specs.declared.events.Event.{Event}
use Rattle.world_model.specs.declared.events.StepFault.{StepFault}
use Rattle.world_model.specs.declared.events.StepFault.TheVariants as step
use Rattle.world_model.specs.declared.exact.ExactWorld.{ExactWorld}
use Rattle.journal_text.specs.Journals.{history_text}
use Rattle.journal_merge.specs.LineMerges.{Journals, HasMerge}
use Rattle.journal_merger.specs.Judging.{IsJudgeFault}
use Rattle.journal_merger.specs.Merges.{IsMerged, IsBegun, IsMergeFault}
use Rattle.journal_merger.specs.Pendings.{Pending, AreLeft, lines_of}
use Rattle.journal_merger.specs.declared.faults.Failure.{Failure}
use Rattle.journal_merger.specs.declared.faults.JournalsFault.{JournalsFault}
use Rattle.journal_merger.specs.declared.faults.JournalsFault.TheVariants as fault
use Rattle.line_merger.specs.declared.offers.Refusal.{Refusal}
use Rattle.line_merger.specs.declared.offers.Refusal.TheVariants as refusal
use Rattle.line_streams.specs.Streams.{pieces, AppendsBeginning}
use Rattle.own_journals.specs.declared.lines.OwnLine.{OwnLine}
use Rattle.own_journals.specs.declared.lines.OwnLine.TheVariants as own
use Rattle.operator_cli.specs.declared.faults.ServeFault.{ServeFault}
use Rattle.operator_cli.specs.declared.faults.ServeFault.TheVariants as serving
use Rattle.world_settings.specs.declared.faults.SettingsFault.{SettingsFault}
use Rattle.world_settings.specs.declared.faults.SettingsFault.TheVariants as settings
use Rattle.world_settings.specs.declared.commands.Command.TheVariants as command
use Rattle.world_settings.specs.Openings.{all_down}
use Rattle.world_settings.specs.Settings.{Given, settings_of}
use Rattle.operator_cli.specs.Outputs.{refusal_output, Prints}
use Rattle.world_settings.specs.Heads.{head_of}
use Rattle.program_ends.specs.declared.ending.Ended.{Ended}
use Rattle.program_ends.specs.Endings.{Writers}
use Rattle.merge_service.specs.declared.ends.MergeEnd.{MergeEnd}
use Rattle.merge_service.specs.declared.ends.MergeEnd.TheVariants as end
use Rattle.merge_service.specs.declared.ends.MergeFault.{MergeFault}
use Rattle.merge_service.specs.declared.ends.MergeFault.TheVariants as met
use Rattle.merge_service.specs.declared.telling.Sort.{Sort}
use Rattle.merge_service.specs.declared.telling.Sort.TheVariants as sort

-- how many lines were merged
abbrev pub merged_text : ℕ → List ℕ
merged_text lines = codes "merged " ++ decimal lines ++ codes "\n"

-- the settings, the line that ends them, and the journal of a merge
abbrev pub journal_after : List ℕ → List (Event × Effect) → List ℕ
journal_after head told = (head ++ codes "---\n") ++ history_text told

-- What is written of a merge of so many lines: their number if the journals are only judged, else a history that they tell.
abbrev pub WritesMerge : Bool → List ℕ → ExactWorld → Journals → ℕ → Option (List ℕ) → Option (List ℕ) → Type 0
WritesMerge true head w journals lines old new = Appends old new (merged_text lines)
WritesMerge false head w journals lines old new = (told : List (Event × Effect)) × IsMerged w journals told × Appends old new (journal_after head told)

-- What is written if there is no merge, or after a fault of a journal: nothing if the journals are only judged, else a
-- beginning of the settings and the journal of a history that begins a merge.
abbrev pub WritesSome : Bool → List ℕ → ExactWorld → List Pending → Option (List ℕ) → Option (List ℕ) → Type 0
WritesSome true head w pending old new = new ≡ old
WritesSome false head w pending old new = (told : List (Event × Effect)) × IsBegun w pending told × AppendsBeginning old new (journal_after head told)

-- a fault that may be met: no list of messages is full, and no journal is written, if the journals are only judged
abbrev pub MeetsFault : Bool → JournalsFault → Type 0
MeetsFault true f = IsJudgeFault f
MeetsFault false f = IsMergeFault f

-- What is written if the settings, or the number of lines, can't be written: a beginning.
abbrev pub WritesPart : Bool → List ℕ → Option (List ℕ) → Option (List ℕ) → Type 0
WritesPart true head old new = (lines : ℕ) × AppendsBeginning old new (merged_text lines)
WritesPart false head old new = AppendsBeginning old new (head ++ codes "---\n")

-- What comes of journals that are merged from a world. Merged: the texts have lines, these have a merge, and it was
-- written. Stuck: whatever lines the texts have, they have no merge.
abbrev pub Merges : Bool → List ℕ → ExactWorld → List Pending → Option (List ℕ) → Option (List ℕ) → Result MergeEnd MergeFault → Type 0
Merges judged head w pending old new (Ok end.Merged) =
    (journals : Journals) × AreLeft (Unit {0}) pending journals × HasMerge w journals × WritesMerge judged head w journals (lines_of pending journals) old new
Merges judged head w pending old new (Ok end.Stuck) = ((journals : Journals) → AreLeft ⊥ pending journals → HasMerge w journals → ⊥) × WritesSome judged head w pending old new
Merges judged head w pending old new (Ok end.Refused) = ⊥
Merges judged head w pending old new (Err (met.Journals f)) = MeetsFault judged f.fault × WritesSome judged head w pending old new
Merges judged head w pending old new (Err (met.Serve f)) = ((f ≡ serving.Write) ⊎ (f ≡ serving.Memory)) × WritesPart judged head old new

-- what comes of a merge whose settings are refused, by what came of writing that
abbrev pub refused_of : Result ℕ ServeFault → Result MergeEnd MergeFault
refused_of (Ok status) = Ok end.Refused
refused_of (Err f) = Err (met.Serve f)

-- The settings were refused, which was written, or could not be.
abbrev pub RefusesSettings : SettingsFault → Option (List ℕ) → Option (List ℕ) → Result MergeEnd MergeFault → Type 0
RefusesSettings e old new r = (came : Result ℕ ServeFault) × (r ≡ refused_of came) × Prints (refusal_output e) old new came

-- The reader failed, and nothing was written.
abbrev pub EndsUnread : Option (List ℕ) → Option (List ℕ) → Result MergeEnd MergeFault → Type 0
EndsUnread old new r = (r ≡ Err (met.Serve serving.Read)) × (new ≡ old)

-- What comes of journals that are merged by settings, or by a text of settings.
abbrev pub MergesBy : Bool → List ℕ → Result Given SettingsFault → List Pending → Option (List ℕ) → Option (List ℕ) → Result MergeEnd MergeFault → Type 0
MergesBy judged head (Err e) pending old new r = RefusesSettings e old new r
MergesBy judged head (Ok g) pending old new r = Merges judged head (all_down g.settings) pending old new r

abbrev pub MergesHead : Bool → List ℕ → List Pending → Option (List ℕ) → Option (List ℕ) → Result MergeEnd MergeFault → Type 0
MergesHead judged head pending old new r = MergesBy judged head (settings_of command.Audit head) pending old new r ⊎ RefusesSettings settings.Memory old new r

abbrev pub MergesBehind : Bool → Result (List ℕ × List (List ℕ)) SettingsFault → List Pending → Option (List ℕ) → Option (List ℕ) → Result MergeEnd MergeFault → Type 0
MergesBehind judged (Err e) pending old new r = RefusesSettings e old new r
MergesBehind judged (Ok parts) pending old new r = MergesHead judged parts.0 pending old new r

-- What comes of journals that are merged by known bytes: by the settings before the line of dashes, whatever is after
-- it. If there was no memory for the settings, the line that says so is written.
abbrev pub ServesMerge : Bool → Option (List ℕ) → List Pending → Option (List ℕ) → Option (List ℕ) → Result MergeEnd MergeFault → Type 0
ServesMerge judged None pending old new r = Unit {0}
ServesMerge judged (Some input) pending old new r =
    MergesBehind judged (head_of (pieces input)) pending old new r ⊎ (RefusesSettings settings.Memory old new r ⊎ EndsUnread old new r)

-- the status after a fault of a journal: 2 if a journal has to be mended
abbrev pub failure_status : JournalsFault → ℕ
failure_status fault.NoActor = 2
failure_status fault.SameActor = 2
failure_status fault.NoLine = 2
failure_status fault.OtherActor = 2
failure_status fault.Read = 2
failure_status fault.Full = 1
failure_status fault.Write = 1
failure_status fault.Memory = 1
failure_status fault.TooManyLines = 1

abbrev pub merge_status : Result MergeEnd MergeFault → ℕ
merge_status (Ok end.Merged) = 0
merge_status (Ok end.Stuck) = 1
merge_status (Ok end.Refused) = 2
merge_status (Err (met.Serve f)) = 1
merge_status (Err (met.Journals f)) = failure_status f.fault

-- Journals in files, so many, were merged, and the status says what came of it.
abbrev pub MergesFiles : Bool → ℕ → Option (List ℕ) → Writers → Ended → Type 0
MergesFiles judged count input w e =
    (pending : List Pending) × (came : Result MergeEnd MergeFault) × (length pending ≡ count) × ServesMerge judged input pending w.old w.new came × (e.status ≡ merge_status came)

-- A file could not be opened, or is no journal that could be added. Then nothing is written.
abbrev pub LacksFile : Writers → Ended → Type 0
LacksFile w e = (f : Failure) × Keeps w.old w.new × (e.status ≡ failure_status f.fault)

abbrev pub RunsMerge : Bool → ℕ → Option (List ℕ) → Writers → Ended → Type 0
RunsMerge judged count input w e = MergesFiles judged count input w e ⊎ LacksFile w e

-- the same of a line whose step is refused, but not because the settings have no such actor
abbrev pub sort_of_line : OwnLine → Sort
sort_of_line (own.Life who found) = sort.Record
sort_of_line (own.Reads who frame) = sort.Event
sort_of_line (own.Does e) = sort.Event

-- the same of a line whose step is refused so
abbrev pub sort_of_step : StepFault → OwnLine → Sort
sort_of_step step.UnknownActor l = sort.Actor
sort_of_step step.Down l = sort_of_line l
sort_of_step step.Up l = sort_of_line l
sort_of_step step.WrongPhase l = sort_of_line l
sort_of_step step.NotStored l = sort_of_line l
sort_of_step step.NothingToSay l = sort_of_line l
sort_of_step step.NoSuchMessage l = sort_of_line l
sort_of_step step.NotAddressed l = sort_of_line l
sort_of_step step.NoQuorum l = sort_of_line l
sort_of_step step.AttemptsSpent l = sort_of_line l
sort_of_step step.SentListFull l = sort_of_line l
sort_of_step step.Memory l = sort_of_line l
sort_of_step step.NoSuchPlace l = sort_of_line l
sort_of_step step.NothingTried l = sort_of_line l

-- Why a line is left, by why its actor refuses it and by what it says. If it is not refused, nobody said what it reads. A life
-- that is refused has another record, unless the settings have no such actor.
abbrev pub sort_of : Option Refusal → OwnLine → Sort
sort_of None l = sort.Unsaid
sort_of (Some refusal.OtherRecord) l = sort.Record
sort_of (Some refusal.OtherActor) l = sort.Event
sort_of (Some (refusal.Step f)) l = sort_of_step f l
