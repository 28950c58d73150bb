-- The numbers of the faults of logs.
use Rattle.std.specs.Prelude.{ℕ}
use Rattle.event_recorders.specs.declared.log_faults.LogFault.{LogFault}
use Rattle.event_recorders.specs.declared.log_faults.LogFault.TheVariants.{NotAStep, Full, Memory, OtherActor, OtherBook}

abbrev pub log_fault_number : LogFault → ℕ
log_fault_number (NotAStep f) = 811
log_fault_number Full = 812
log_fault_number Memory = 813
log_fault_number OtherActor = 814
log_fault_number OtherBook = 815
