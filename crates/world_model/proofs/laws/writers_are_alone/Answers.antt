use Rattle.world_model.proofs.SafeRuns.{opening-safe, run-safe}
use Rattle.world_model.proofs.ExclusionFacts.{sound-stations, exclusive}
use Rattle.world_model.proofs.laws.writers_are_alone.Goals as goal

pub returns-clause-alone : goal.returns-clause-alone
returns-clause-alone c = λ s w v events crosses lawful run. exclusive c.enough_sets_share_a_node_of_both.ensures c.any_two_cross.ensures.any_two s v crosses (run-safe s events w v (opening-safe s w lawful) run)

pub returns-clause-stations : goal.returns-clause-stations
returns-clause-stations c = λ s w v events lawful run. sound-stations s v (run-safe s events w v (opening-safe s w lawful) run)

pub returns-clause-muddled : goal.returns-clause-muddled
returns-clause-muddled c = λ s w v events lawful run. (run-safe s events w v (opening-safe s w lawful) run).none_muddled
