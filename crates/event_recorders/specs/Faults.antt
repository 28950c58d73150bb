-- The numbers of the faults by which threads end.
use Rattle.std.specs.Prelude.{ℕ}
use Rattle.event_recorders.specs.declared.faults.RunFault.{RunFault}
use Rattle.event_recorders.specs.declared.faults.RunFault.TheVariants.{NotReopened, TooFewNodes, GaveUp, Memory, Book, Spent}

abbrev pub run_fault_number : RunFault → ℕ
run_fault_number NotReopened = 911
run_fault_number TooFewNodes = 912
run_fault_number GaveUp = 913
run_fault_number Memory = 914
run_fault_number Book = 915
run_fault_number Spent = 916
