use Rattle.lock_model.proofs.HearingFacts.{of-ticket, once-softened, at-rest}
use Rattle.lock_model.proofs.laws.hearing_is_exact.Goals as goal

pub returns : goal.returns
returns c = record { of_ticket = of-ticket; softened = once-softened; at_rest = at-rest }
