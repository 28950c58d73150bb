use Rattle.world_model.proofs.Deeds.{laws-of}
use Rattle.world_model.proofs.StepFacts.{step-done}
use Rattle.world_model.proofs.RunFacts.{run-allowed}
use Rattle.world_model.proofs.TakenSteps.{step-taken}
use Rattle.world_model.proofs.laws.exact_steps_are_allowed.Goals as goal

pub returns-clause-steps : goal.returns-clause-steps
returns-clause-steps c = λ w v e done sound h.
    let d = step-done (laws-of c.decision_is_allowed.ensures c.changes_are_seen.ensures.same c.switch_is_allowed.ensures.allowed c.switch_is_allowed.ensures.same c.switch_is_allowed.ensures.compared c.hearing_is_exact.ensures.of_ticket c.hearing_is_exact.ensures.softened c.hearing_is_exact.ensures.at_rest) w e _ h in (d.happens sound, d.setting)

pub returns-clause-sound : goal.returns-clause-sound
returns-clause-sound c = λ w v e done sound h.
    (step-done (laws-of c.decision_is_allowed.ensures c.changes_are_seen.ensures.same c.switch_is_allowed.ensures.allowed c.switch_is_allowed.ensures.same c.switch_is_allowed.ensures.compared c.hearing_is_exact.ensures.of_ticket c.hearing_is_exact.ensures.softened c.hearing_is_exact.ensures.at_rest) w e _ h).sound sound

pub returns-clause-taken : goal.returns-clause-taken
returns-clause-taken c = step-taken (laws-of c.decision_is_allowed.ensures c.changes_are_seen.ensures.same c.switch_is_allowed.ensures.allowed c.switch_is_allowed.ensures.same c.switch_is_allowed.ensures.compared c.hearing_is_exact.ensures.of_ticket c.hearing_is_exact.ensures.softened c.hearing_is_exact.ensures.at_rest)

pub returns-clause-runs : goal.returns-clause-runs
returns-clause-runs c = λ w events.
    run-allowed (laws-of c.decision_is_allowed.ensures c.changes_are_seen.ensures.same c.switch_is_allowed.ensures.allowed c.switch_is_allowed.ensures.same c.switch_is_allowed.ensures.compared c.hearing_is_exact.ensures.of_ticket c.hearing_is_exact.ensures.softened c.hearing_is_exact.ensures.at_rest) events w
