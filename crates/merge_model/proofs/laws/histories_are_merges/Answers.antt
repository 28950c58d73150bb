use Rattle.merge_model.proofs.TakenTurns.{history-merges, long-merges, history-comes}
use Rattle.merge_model.proofs.laws.histories_are_merges.Goals as goal

pub returns-clause-exact : goal.returns-clause-exact
returns-clause-exact c = history-merges c.steps_change_one_part.ensures.changes c.steps_change_one_part.ensures.effects c.steps_change_one_part.ensures.messages

pub returns-clause-long : goal.returns-clause-long
returns-clause-long c = long-merges

pub returns-clause-all : goal.returns-clause-all
returns-clause-all c = λ w v history. history-comes c.steps_change_one_part.ensures.changes c.steps_change_one_part.ensures.effects c.steps_change_one_part.ensures.messages history w v
