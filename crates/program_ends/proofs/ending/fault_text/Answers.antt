use Rattle.std.proofs.Common.{◌≡◌, ◌∙◌, codes, refl, sym, ap}
use Rattle.std.specs.Fmt.{digits}
use Rattle.operator_cli.specs.declared.faults.ServeFault.{ServeFault}
use Rattle.operator_cli.specs.declared.faults.ServeFault.TheVariants as fault
use Rattle.program_ends.specs.Endings.{fault_text}
use Rattle.program_ends.proofs.ending.fault_text.Goals as goal

text_931 : codes "fault 931\n" ≡ fault_text fault.Read
unfolding digits
text_931 = refl

pub returns-in-Read : goal.returns-in-Read
returns-in-Read c = text_931 ∙ ap (λ (f : ServeFault). fault_text f) (sym c.in-Read.is)

text_932 : codes "fault 932\n" ≡ fault_text fault.Write
unfolding digits
text_932 = refl

pub returns-in-Write : goal.returns-in-Write
returns-in-Write c = text_932 ∙ ap (λ (f : ServeFault). fault_text f) (sym c.in-Write.is)

text_933 : codes "fault 933\n" ≡ fault_text fault.Memory
unfolding digits
text_933 = refl

pub returns-in-Memory : goal.returns-in-Memory
returns-in-Memory c = text_933 ∙ ap (λ (f : ServeFault). fault_text f) (sym c.in-Memory.is)
