-- The numbers of faults.
use Rattle.std.specs.Prelude.{ℕ}
use Rattle.event_lines.specs.declared.faults.LineFault.{LineFault}
use Rattle.event_lines.specs.declared.faults.LineFault.TheVariants as line

abbrev pub line_fault_number : LineFault → ℕ
line_fault_number line.Word = 801
line_fault_number line.Actor = 802
line_fault_number line.Number = 803
line_fault_number line.Name = 804
line_fault_number line.Words = 805
