use Rattle.std.proofs.Common.{◌≡◌, ◌∙◌, codes, refl, sym, ap}
use Rattle.std.specs.Fmt.{digits}
use Rattle.operator_cli.specs.declared.AuditFault.{AuditFault}
use Rattle.operator_cli.specs.declared.AuditFault.TheVariants as audit
use Rattle.operator_cli.specs.declared.faults.ServeFault.TheVariants as fault
use Rattle.program_ends.specs.Endings.{fault_text}
use Rattle.program_ends.proofs.ending.audit_fault_text.Goals as goal

text_816 : codes "fault 816\n" ≡ fault_text (fault.Audit audit.Read)
unfolding digits
text_816 = refl

pub returns-in-Read : goal.returns-in-Read
returns-in-Read c = text_816 ∙ ap (λ (f : AuditFault). fault_text (fault.Audit f)) (sym c.in-Read.is)

text_817 : codes "fault 817\n" ≡ fault_text (fault.Audit audit.Write)
unfolding digits
text_817 = refl

pub returns-in-Write : goal.returns-in-Write
returns-in-Write c = text_817 ∙ ap (λ (f : AuditFault). fault_text (fault.Audit f)) (sym c.in-Write.is)

text_818 : codes "fault 818\n" ≡ fault_text (fault.Audit audit.Memory)
unfolding digits
text_818 = refl

pub returns-in-Memory : goal.returns-in-Memory
returns-in-Memory c = text_818 ∙ ap (λ (f : AuditFault). fault_text (fault.Audit f)) (sym c.in-Memory.is)

text_819 : codes "fault 819\n" ≡ fault_text (fault.Audit audit.TooManyLines)
unfolding digits
text_819 = refl

pub returns-in-TooManyLines : goal.returns-in-TooManyLines
returns-in-TooManyLines c = text_819 ∙ ap (λ (f : AuditFault). fault_text (fault.Audit f)) (sym c.in-TooManyLines.is)
