use Rattle.std.proofs.Common.{◌≡◌, true, false, subst}
use Rattle.lock_model.specs.ExactStations.{admits_reader}
use Rattle.admission_policy.specs.Policies.{problem_number}
use Rattle.admission_policy.proofs.boxes.BoxDynAdmissionSendAdmission.admits.Goals as goal

pub returns-clause-rule : goal.returns-clause-rule
returns-clause-rule g c =
    subst (λ v. c.admits.result ≡ admits_reader ((goal.Admission-dyn g v).problem_of v.1) c.args.writer_holds c.args.writer_waits) c.deref_box-1.ensures.1 c.admits.ensures.0

pub returns-clause-first : goal.returns-clause-first
returns-clause-first g c =
    subst (λ v. problem_number ((goal.Admission-dyn g v).problem_of v.1) ≡ 1 → c.args.writer_holds ≡ false → c.args.writer_waits ≡ true → c.admits.result ≡ true) c.deref_box-1.ensures.1 c.admits.ensures.1.1.1.0

pub returns-clause-second : goal.returns-clause-second
returns-clause-second g c =
    subst (λ v. problem_number ((goal.Admission-dyn g v).problem_of v.1) ≡ 2 → c.args.writer_holds ≡ false → c.args.writer_waits ≡ true → c.admits.result ≡ false) c.deref_box-1.ensures.1 c.admits.ensures.1.1.1.1
