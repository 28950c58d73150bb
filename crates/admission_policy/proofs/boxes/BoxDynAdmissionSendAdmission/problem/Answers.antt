use Rattle.std.proofs.Common.{◌≡◌, subst}
use Rattle.admission_policy.specs.Policies.{problem_number}
use Rattle.admission_policy.proofs.boxes.BoxDynAdmissionSendAdmission.problem.Goals as goal

pub returns-clause-number : goal.returns-clause-number
returns-clause-number g c = subst (λ v. c.problem.result ≡ problem_number ((goal.Admission-dyn g v).problem_of v.1)) c.deref_box-1.ensures.1 c.problem.ensures.0
