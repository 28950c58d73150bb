-- The numbers of faults.
use Rattle.std.specs.Prelude.{ℕ}
use Rattle.journal_audit.specs.declared.faults.AuditFault.{AuditFault}
use Rattle.journal_audit.specs.declared.faults.AuditFault.TheVariants as fault

abbrev pub audit_fault_number : AuditFault → ℕ
audit_fault_number fault.Read = 816
audit_fault_number fault.Write = 817
audit_fault_number fault.Memory = 818
audit_fault_number fault.TooManyLines = 819
