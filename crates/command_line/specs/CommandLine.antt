-- What the program does with its words: the status that it ends with, what it writes, and what it
-- says on the second writer.
use Rattle.std.specs.Prelude.{◌≡◌, ◌⊎◌, ◌||◌, ℕ, Bool, true, false, List, [], length, Option, Some, None, Result, Ok, Err, codes, string_bytes}
use Rattle.std.specs.Io.KnownBytes.{Keeps, Appends}
use Rattle.clap.specs.Words.{Kinds, fault_of}
use Rattle.line_streams.specs.Streams.{AppendsPart}
use Rattle.file_plate.specs.declared.faults.FileFault.{FileFault}
use Rattle.file_plate.specs.declared.faults.FileFault.TheVariants as file_fault
use Rattle.record_view.specs.declared.reports.Verdict.{Verdict}
use Rattle.record_view.specs.declared.reports.Verdict.TheVariants as verdict
use Rattle.record_view.specs.declared.reports.Report.{Report}
use Rattle.record_view.specs.Texts.{IsReport}
use Rattle.operator_cli.specs.declared.faults.ServeFault.TheVariants as fault
use Rattle.operator_cli.specs.declared.faults.ServeFault.{ServeFault}
use Rattle.world_settings.specs.declared.commands.Command.{Command}
use Rattle.world_settings.specs.declared.commands.Command.TheVariants as command
use Rattle.operator_cli.specs.Outputs.{Serves}
use Rattle.run_service.specs.Outputs.{ServesRun}
use Rattle.merge_service.specs.Merging.{RunsMerge}
use Rattle.program_ends.specs.declared.ending.Ended.{Ended}
use Rattle.program_ends.specs.Endings.{Writers, Shows, LacksMemory, EndsSaying, TellsFault, EndsUnserved}
use Rattle.command_words.specs.declared.reading.Request.{Request}
use Rattle.command_words.specs.declared.reading.Request.TheVariants as request
use Rattle.service_words.specs.Misuses.{misuse_text}
use Rattle.service_requests.specs.Requests.{RunsService}
use Rattle.fault_numbers.specs.Numbers.{words_of, explained_text}
use Rattle.fault_numbers.specs.Tables.{Words}
use Rattle.command_words.specs.Words.{app, FoundWords, found_in, Names}

-- What is served for each command.
abbrev pub ServesFor : Command → Option (List ℕ) → Option (List ℕ) → Option (List ℕ) → Result ℕ ServeFault → Type 0
ServesFor command.Script input old new r = Serves command.Script input old new r
ServesFor command.Audit input old new r = Serves command.Audit input old new r
ServesFor command.Ballot input old new r = Serves command.Ballot input old new r
ServesFor (command.Run journal) input old new r = ServesRun (command.Run journal) input old new r

-- A run that was served: its status, and nothing on the second writer; or its fault, told there.
abbrev pub EndsServed : Result ℕ ServeFault → Option (List ℕ) → Option (List ℕ) → Ended → Type 0
EndsServed (Ok status) old new e = (e.status ≡ status) × (e.told ≡ true) × Keeps old new
EndsServed (Err f) old new e = TellsFault f old new e

abbrev pub RunsCommand : Command → Option (List ℕ) → Writers → Ended → Type 0
RunsCommand c input w e = (r : Result ℕ ServeFault) × ServesFor c input w.old w.new r × EndsServed r w.errors_old w.errors_new e

-- the status of a run that was served, or that a fault ended
abbrev pub status_of : Result ℕ ServeFault → ℕ
status_of (Ok status) = status
status_of (Err f) = 1

-- The same command with `--explain`: what is written and the status are those without it. Of the words on the
-- second writer nothing is said.
abbrev pub ExplainsCommand : Command → Option (List ℕ) → Writers → Ended → Type 0
ExplainsCommand c input w e = (r : Result ℕ ServeFault) × ServesFor c input w.old w.new r × (e.status ≡ status_of r)

abbrev pub RunsAsked : Bool → Command → Option (List ℕ) → Writers → Ended → Type 0
RunsAsked false c input w e = RunsCommand c input w e
RunsAsked true c input w e = ExplainsCommand c input w e

-- the words of a number that was read, if a fault has it
abbrev pub words_for : Option ℕ → Option Words
words_for None = None
words_for (Some number) = words_of number

-- what is said if no fault has the number
abbrev pub unknown_text : List ℕ
unknown_text = codes "error: no fault has this number: docs/REFERENCE.md lists all numbers, from 101 to 970\n\nFor more information, try '--help'.\n"

-- The words of a number are shown, with status 0, unless there was no memory for them. If no fault has the number,
-- that is said, with status 2.
abbrev pub ExplainsNumber : Option Words → Writers → Ended → Type 0
ExplainsNumber None w e = Keeps w.old w.new × EndsSaying 2 unknown_text w.errors_old w.errors_new e
ExplainsNumber (Some words) w e = Shows (explained_text words) w e ⊎ LacksMemory w e

-- A text is shown with this status, unless it could not be written.
abbrev pub ShowsWith : ℕ → List ℕ → Writers → Ended → Type 0
ShowsWith status text w e =
    (Appends w.old w.new text × (e.status ≡ status) × (e.told ≡ true) × Keeps w.errors_old w.errors_new)
    ⊎ (AppendsPart w.old w.new text × TellsFault fault.Write w.errors_old w.errors_new e)

-- the status of a file that was read: 0 exactly if it would open as a record
abbrev pub status_for : Verdict → ℕ
status_for verdict.Opens = 0
status_for verdict.NotWritable = 1
status_for verdict.WrongSize = 1
status_for verdict.NoRecord = 1

-- what is said of a file that can't be read
abbrev pub missing_text : List ℕ
missing_text = codes "fault 942: there is no such file\n"

abbrev pub unreadable_text : List ℕ
unreadable_text = codes "fault 945: the file can't be read, or is not a regular file\n"

abbrev pub look_text : FileFault → List ℕ
look_text file_fault.Missing = missing_text
look_text f = unreadable_text

-- A file that can't be read is refused with status 2, by one of these texts.
abbrev pub RefusesFile : Writers → Ended → Type 0
RefusesFile w e = (f : FileFault) × Keeps w.old w.new × EndsSaying 2 (look_text f) w.errors_old w.errors_new e

-- What a file holds is shown, by a report on some file that was read. Or the file can't be read, or memory ran out.
-- No contract can say what bytes a file has.
abbrev pub LooksAtFile : Writers → Ended → Type 0
LooksAtFile w e = ((r : Report) × IsReport r × ShowsWith (status_for r.verdict) (string_bytes r.text) w e) ⊎ (RefusesFile w e ⊎ LacksMemory w e)

-- Journals are merged, some number of them: those that are named and those in the directories among the names. The settings
-- are those of the input. Or they are those of the first name, if it is a directory. No contract can say which names are
-- directories, nor what is in them.
abbrev pub MergesNamed : Bool → Option (List ℕ) → Writers → Ended → Type 0
MergesNamed judged input w e =
    ((count : ℕ) × RunsMerge judged count input w e)
    ⊎ (((count : ℕ) × (settings : Option (List ℕ)) × RunsMerge judged count settings w e) ⊎ LacksMemory w e)

-- a command is explained if `--explain` is anywhere
abbrev pub RunsRequest : Request → Option (List ℕ) → Writers → Ended → Type 0
RunsRequest (request.Serve a) input w e = RunsAsked (a.front || a.behind) a.command input w e
RunsRequest (request.Explain number) input w e = ExplainsNumber (words_for number) w e
RunsRequest (request.Record file) input w e = LooksAtFile w e
RunsRequest (request.Merge m) input w e = MergesNamed m.judged input w e
RunsRequest (request.Service s) input w e = RunsService s input w e
RunsRequest (request.Misused m) input w e = Keeps w.old w.new × EndsSaying 2 (misuse_text m) w.errors_old w.errors_new e

-- what is asked for is what the words name
abbrev pub RunsNamed : FoundWords → Option (List ℕ) → Writers → Ended → Type 0
RunsNamed found input w e = (r : Request) × Names found r × RunsRequest r input w e

-- What a run does with words that were read. `clap` says which are right, and of which kind the
-- others are: `fault_of` is empty where a command is named.
abbrev pub RunsBy : Option (List ℕ) → Kinds → FoundWords → Writers → Ended → Type 0
RunsBy input kinds found w e = ((kinds ≡ []) × RunsNamed found input w e) ⊎ EndsUnserved kinds w e

abbrev pub Runs : Option (List ℕ) → List (List ℕ) → Writers → Ended → Type 0
Runs input words w e = RunsBy input (fault_of app words) (found_in words) w e
