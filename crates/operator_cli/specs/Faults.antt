-- The numbers of faults.
use Rattle.std.specs.Prelude.{ℕ}
use Rattle.journal_audit.specs.Faults.{audit_fault_number}
use Rattle.operator_cli.specs.declared.faults.ServeFault.{ServeFault}
use Rattle.operator_cli.specs.declared.faults.ServeFault.TheVariants as serving

abbrev pub serve_fault_number : ServeFault → ℕ
serve_fault_number serving.Read = 931
serve_fault_number serving.Write = 932
serve_fault_number serving.Memory = 933
serve_fault_number (serving.Audit fault) = audit_fault_number fault
