-- What comes of a command of a service: the status, and what is said.
use Rattle.std.specs.Prelude.{◌≡◌, ◌⊎◌, ℕ, true, List, take, Option, Some, None, option_map, Result, Ok, Err, IfSome, codes}
use Rattle.std.specs.Io.KnownBytes.{Keeps}
use Rattle.operator_cli.specs.declared.faults.ServeFault.{ServeFault}
use Rattle.operator_cli.specs.declared.faults.ServeFault.TheVariants as fault
use Rattle.program_ends.specs.declared.ending.Ended.{Ended}
use Rattle.program_ends.specs.Endings.{Writers, EndsSaying, TellsFault}
use Rattle.service_folders.specs.declared.faults.ServiceFault.{ServiceFault}
use Rattle.service_ends.specs.ServiceEnds.{TellsService}
use Rattle.service_folders.specs.Makings.{Judges, is_make_fault, is_open_fault}
use Rattle.service_folders.specs.Folders.{Opened}
use Rattle.service_status.specs.Showing.{ShowsStatus}
use Rattle.service_words.specs.declared.requests.ServiceRequest.{ServiceRequest}
use Rattle.service_words.specs.declared.requests.ServiceRequest.TheVariants as request
use Rattle.service_folders.specs.Parts.{Members, ReadsPart}

-- The first bytes of the input: all of it, or 65,536 bytes, which are too many for settings.
abbrev pub IsBeginning : Option (List ℕ) → List ℕ → Type 0
IsBeginning input text = IfSome input (λ bytes. text ≡ take 65536 bytes)

-- the input could not be read, or there was no memory for it
abbrev pub IsReadFault : ServeFault → Type 0
IsReadFault f = (f ≡ fault.Read) ⊎ (f ≡ fault.Memory)

-- A service was made, and nothing is said. Or it was not, for a reason that is said.
abbrev pub EndsMade : Result (Unit {0}) ServiceFault → Option (List ℕ) → Option (List ℕ) → Ended → Type 0
EndsMade (Ok u) old new e = (e.status ≡ 0) × (e.told ≡ true) × Keeps old new
EndsMade (Err f) old new e = (is_make_fault f ≡ true) × TellsService f old new e

-- What comes of a new service by its settings and the actors that are named.
abbrev pub MakesFrom : List ℕ → Option Members → Option (List ℕ) → Option (List ℕ) → Ended → Type 0
MakesFrom text part old new e = (r : Result (Unit {0}) ServiceFault) × Judges text part r × EndsMade r old new e

-- the same by the input that has the settings
abbrev pub MakesRead : Option (List ℕ) → Option Members → Option (List ℕ) → Option (List ℕ) → Ended → Type 0
MakesRead input part old new e = ((text : List ℕ) × IsBeginning input text × MakesFrom text part old new e) ⊎ ((f : ServeFault) × IsReadFault f × TellsFault f old new e)

-- what is said of a list of actors that can't be read
abbrev pub actors_text : List ℕ
actors_text = codes "error: --actors takes a list as n1,n2,c1-c16\n\nFor more information, try '--help'.\n"

abbrev pub MakesPart : Option (List ℕ) → Option Members → Option (List ℕ) → Option (List ℕ) → Ended → Type 0
MakesPart input None old new e = EndsSaying 2 actors_text old new e
MakesPart input (Some part) old new e = MakesRead input (Some part) old new e

-- A list of actors that can't be read is refused.
abbrev pub MakesList : List ℕ → Option (List ℕ) → Option (List ℕ) → Option (List ℕ) → Ended → Type 0
MakesList actors input old new e = (part : Option Members) × ReadsPart actors part × MakesPart input part old new e

-- What comes of `init`. Without a list all actors are meant.
abbrev pub RunsInit : Option (List ℕ) → Option (List ℕ) → Option (List ℕ) → Option (List ℕ) → Ended → Type 0
RunsInit None input old new e = MakesRead input None old new e
RunsInit (Some actors) input old new e = MakesList actors input old new e

-- What comes of `status`: a service is shown, or it is said why it can't be opened.
abbrev pub RunsStatus : Writers → Ended → Type 0
RunsStatus w e =
    ((o : Opened) × ShowsStatus o w e)
    ⊎ ((f : ServiceFault) × (is_open_fault f ≡ true) × Keeps w.old w.new × TellsService f w.errors_old w.errors_new e)

-- What comes of a command of a service. Of the programs that run actors no contract says what they write, nor their
-- status.
abbrev pub RunsService : ServiceRequest → Option (List ℕ) → Writers → Ended → Type 0
RunsService (request.Init words) input w e = Keeps w.old w.new × RunsInit (option_map (λ t. t.now) words.actors) input w.errors_old w.errors_new e
RunsService (request.Status folder) input w e = RunsStatus w e
RunsService (request.Node words) input w e = Unit {0}
RunsService (request.Client words) input w e = Unit {0}
RunsService (request.Reap words) input w e = Unit {0}
RunsService (request.Switch words) input w e = Unit {0}
