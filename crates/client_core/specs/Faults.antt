-- The numbers of the faults.
use Rattle.std.specs.Prelude.{ℕ}
use Rattle.client_core.specs.declared.faults.ClientFault.{ClientFault}
use Rattle.client_core.specs.declared.faults.ClientFault.TheVariants.{NotIdle, AttemptsSpent, NoSuchPlace}

-- the number by which programs print the fault
abbrev pub fault_number : ClientFault → ℕ
fault_number NotIdle = 701
fault_number AttemptsSpent = 702
fault_number NoSuchPlace = 703
