-- The numbers of faults.
use Rattle.std.specs.Prelude.{ℕ}
use Rattle.journal_merger.specs.declared.faults.JournalsFault.{JournalsFault}
use Rattle.journal_merger.specs.declared.faults.JournalsFault.TheVariants as fault

abbrev pub journals_fault_number : JournalsFault → ℕ
journals_fault_number fault.NoActor = 951
journals_fault_number fault.SameActor = 952
journals_fault_number fault.NoLine = 953
journals_fault_number fault.OtherActor = 954
journals_fault_number fault.Full = 955
journals_fault_number fault.Read = 956
journals_fault_number fault.Write = 957
journals_fault_number fault.Memory = 958
journals_fault_number fault.TooManyLines = 959
