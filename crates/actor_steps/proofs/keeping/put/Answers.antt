use Rattle.std.proofs.Common.{◌≡◌, Err, subst}
use Rattle.actor_steps.proofs.ReopenFacts.{failed_once}
use Rattle.actor_steps.proofs.keeping.put.Goals as goal

-- what the device did, and how often it has failed
pub returns-in-Err-Device-clause-put : goal.returns-in-Err-Device-clause-put
returns-in-Err-Device-clause-put g c =
    let failed = c.keep.ensures.device (subst (λ f. c.keep.result ≡ Err f) c.in-Err-Device.field-0-is c.in-Err-Device.is) in
    record { only = failed.1; is_stuck = failed.2; counted = failed_once _ _ failed.0 c.keep.ensures.count }
