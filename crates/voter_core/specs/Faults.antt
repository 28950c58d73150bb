-- The numbers of the faults.
use Rattle.std.specs.Prelude.{ℕ}
use Rattle.voter_core.specs.declared.faults.VoterFault.{VoterFault}
use Rattle.voter_core.specs.declared.faults.VoterFault.TheVariants.{Unreadable, Memory}

-- the number by which programs print the fault
abbrev pub fault_number : VoterFault → ℕ
fault_number (Unreadable fault) = 501
fault_number Memory = 503
