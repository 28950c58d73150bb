use Rattle.std.proofs.Common.{◌≡◌, subst}
use Rattle.admission_policy.proofs.boxes.BoxDynAdmissionSendAdmission.tally.Goals as goal

pub returns : goal.returns
returns g c = subst (λ v. c.tally.result ≡ (goal.Admission-dyn g v).tally_of v.1) c.deref_box-1.ensures.1 c.tally.ensures
