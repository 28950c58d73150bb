use Rattle.merge_model.proofs.Greed.{comes-first, stuck}
use Rattle.merge_model.proofs.GoingOn.{merges-go-on}
use Rattle.merge_model.proofs.laws.any_next_event_may_come_first.Goals as goal

pub returns-clause-first : goal.returns-clause-first
returns-clause-first c = λ b parts said history next own s is source. comes-first b history parts said next own s is source

pub returns-clause-on : goal.returns-clause-on
returns-clause-on c = merges-go-on c.steps_change_one_part.ensures.changes c.steps_change_one_part.ensures.effects c.steps_change_one_part.ensures.messages

pub returns-clause-stuck : goal.returns-clause-stuck
returns-clause-stuck c = stuck
