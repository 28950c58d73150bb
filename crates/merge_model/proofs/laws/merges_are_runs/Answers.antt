use Rattle.world_model.proofs.Deeds.{laws-of}
use Rattle.merge_model.proofs.Beginnings.{merge-begins}
use Rattle.merge_model.proofs.MergedRuns.{merge-runs, merge-exclusive}
use Rattle.merge_model.proofs.laws.merges_are_runs.Goals as goal

pub returns-clause-runs : goal.returns-clause-runs
returns-clause-runs c =
    merge-runs (laws-of c.decision_is_allowed.ensures c.changes_are_seen.ensures.same c.switch_is_allowed.ensures.allowed c.switch_is_allowed.ensures.same c.switch_is_allowed.ensures.compared c.hearing_is_exact.ensures.of_ticket c.hearing_is_exact.ensures.softened c.hearing_is_exact.ensures.at_rest)

pub returns-clause-exclusive : goal.returns-clause-exclusive
returns-clause-exclusive c =
    merge-exclusive (laws-of c.decision_is_allowed.ensures c.changes_are_seen.ensures.same c.switch_is_allowed.ensures.allowed c.switch_is_allowed.ensures.same c.switch_is_allowed.ensures.compared c.hearing_is_exact.ensures.of_ticket c.hearing_is_exact.ensures.softened c.hearing_is_exact.ensures.at_rest)
    c.enough_sets_share_a_node_of_both.ensures c.any_two_cross.ensures.any_two

pub returns-clause-beginnings : goal.returns-clause-beginnings
returns-clause-beginnings c = merge-begins
