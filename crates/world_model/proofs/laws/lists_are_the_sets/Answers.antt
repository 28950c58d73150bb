use Rattle.world_model.specs.Forgetting.{forget, setting_of}
use Rattle.world_model.proofs.ExclusionFacts.{exclusive}
use Rattle.world_model.proofs.InsideFacts.{inside-is-set, writer-inside-only}
use Rattle.world_model.proofs.HoldingFacts.{waiting-is-set, holding-is-set}
use Rattle.world_model.proofs.laws.lists_are_the_sets.Goals as goal

pub returns-clause-exclusive : goal.returns-clause-exclusive
returns-clause-exclusive c = λ w sound. exclusive c.enough_sets_share_a_node_of_both.ensures c.any_two_cross.ensures.any_two (setting_of w) (forget w) sound.crosses sound.safe

pub returns-clause-inside : goal.returns-clause-inside
returns-clause-inside c = inside-is-set

pub returns-clause-writer : goal.returns-clause-writer
returns-clause-writer c = writer-inside-only c.enough_sets_share_a_node_of_both.ensures c.any_two_cross.ensures.any_two

pub returns-clause-waiting : goal.returns-clause-waiting
returns-clause-waiting c = waiting-is-set

pub returns-clause-holding : goal.returns-clause-holding
returns-clause-holding c = holding-is-set
