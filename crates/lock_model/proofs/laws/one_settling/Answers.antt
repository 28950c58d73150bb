use Rattle.lock_model.proofs.SettlingSets.{settling-exact, settling-holders, settling-unique}
use Rattle.lock_model.proofs.laws.one_settling.Goals as goal

pub returns : goal.returns
returns c = record {
  exact = λ p entries once. (settling-exact p entries once, settling-holders p entries once);
  unique = settling-unique;
}
