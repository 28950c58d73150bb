-- The numbers of faults.
use Rattle.std.specs.Prelude.{ℕ}
use Rattle.journal_text.specs.declared.faults.JournalFault.{JournalFault}
use Rattle.journal_text.specs.declared.faults.JournalFault.TheVariants as fault

abbrev pub journal_fault_number : JournalFault → ℕ
journal_fault_number fault.Write = 817
journal_fault_number fault.Memory = 818
