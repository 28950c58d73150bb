use Rattle.lock_model.proofs.SwitchFacts.{switch-allowed, switch-to-the-same, problems-are-compared}
use Rattle.lock_model.proofs.laws.switch_is_allowed.Goals as goal

pub returns : goal.returns
returns c = record { allowed = switch-allowed; same = switch-to-the-same; compared = problems-are-compared }
