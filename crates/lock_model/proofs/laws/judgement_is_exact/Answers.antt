use Rattle.lock_model.proofs.JudgementFacts.{lawful-iff, caused-iff}
use Rattle.lock_model.proofs.laws.judgement_is_exact.Goals as goal

pub returns : goal.returns
returns c = record { lawful = lawful-iff; caused = caused-iff }
