use Rattle.world_model.proofs.Deeds.{laws-of}
use Rattle.world_model.proofs.LocalityFacts.{parts-local, refusals-local, histories-run}
use Rattle.world_model.proofs.laws.locality.Goals as goal

pub returns-clause-parts : goal.returns-clause-parts
returns-clause-parts c = λ w v history.
    parts-local (laws-of c.decision_is_allowed.ensures c.changes_are_seen.ensures.same c.switch_is_allowed.ensures.allowed c.switch_is_allowed.ensures.same c.switch_is_allowed.ensures.compared c.hearing_is_exact.ensures.of_ticket c.hearing_is_exact.ensures.softened c.hearing_is_exact.ensures.at_rest) history w v

pub returns-clause-refusals : goal.returns-clause-refusals
returns-clause-refusals c = λ w v history.
    refusals-local (laws-of c.decision_is_allowed.ensures c.changes_are_seen.ensures.same c.switch_is_allowed.ensures.allowed c.switch_is_allowed.ensures.same c.switch_is_allowed.ensures.compared c.hearing_is_exact.ensures.of_ticket c.hearing_is_exact.ensures.softened c.hearing_is_exact.ensures.at_rest) history w v

pub returns-clause-runs : goal.returns-clause-runs
returns-clause-runs c = λ w v history.
    histories-run (laws-of c.decision_is_allowed.ensures c.changes_are_seen.ensures.same c.switch_is_allowed.ensures.allowed c.switch_is_allowed.ensures.same c.switch_is_allowed.ensures.compared c.hearing_is_exact.ensures.of_ticket c.hearing_is_exact.ensures.softened c.hearing_is_exact.ensures.at_rest) history w v
