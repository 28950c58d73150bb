-- What is said of a fault of a service, and the status.
use Rattle.std.specs.Prelude.{◌⊎◌, ℕ, List, ◌++◌, Option, codes}
use Rattle.std.specs.Fmt.{decimal}
use Rattle.operator_cli.specs.declared.faults.ServeFault.TheVariants as fault
use Rattle.program_ends.specs.declared.ending.Ended.{Ended}
use Rattle.program_ends.specs.Endings.{EndsSaying, TellsFault}
use Rattle.fault_numbers.specs.Numbers.{meaning_of}
use Rattle.service_folders.specs.declared.faults.ServiceFault.{ServiceFault}
use Rattle.service_folders.specs.declared.faults.ServiceFault.TheVariants as service
use Rattle.service_folders.specs.Faults.{service_fault_number}

-- the status of a fault: 2 if settings are refused
abbrev pub status_of : ServiceFault → ℕ
status_of (service.Settings f) = 2
status_of f = 1

-- what is said before the number
abbrev pub fault_head : ServiceFault → List ℕ
fault_head (service.Settings f) = codes "settings fault "
fault_head f = codes "fault "

-- the number with the words of the number
abbrev pub fault_text : ServiceFault → List ℕ
fault_text f = fault_head f ++ decimal (service_fault_number f) ++ codes ": " ++ meaning_of (service_fault_number f) ++ codes "\n"

-- A fault is said, with its status. Or there was no memory for the words.
abbrev pub TellsService : ServiceFault → Option (List ℕ) → Option (List ℕ) → Ended → Type 0
TellsService f old new e = EndsSaying (status_of f) (fault_text f) old new e ⊎ TellsFault fault.Memory old new e
