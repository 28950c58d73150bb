use Rattle.world_model.proofs.Deeds.{laws-of}
use Rattle.world_model.proofs.StepFacts.{step-done}
use Rattle.world_model.proofs.RefusalFacts.{own-first, list-second, full-without-room, never-memory}
use Rattle.world_model.proofs.laws.steps_change_one_part.Goals as goal

pub returns-clause-changes : goal.returns-clause-changes
returns-clause-changes c = λ w v e done h.
    let d = step-done (laws-of c.decision_is_allowed.ensures c.changes_are_seen.ensures.same c.switch_is_allowed.ensures.allowed c.switch_is_allowed.ensures.same c.switch_is_allowed.ensures.compared c.hearing_is_exact.ensures.of_ticket c.hearing_is_exact.ensures.softened c.hearing_is_exact.ensures.at_rest) w e _ h in
    record { setting = d.setting; own = d.own; others = d.others; sent = d.sent }

pub returns-clause-own : goal.returns-clause-own
returns-clause-own c = own-first (laws-of c.decision_is_allowed.ensures c.changes_are_seen.ensures.same c.switch_is_allowed.ensures.allowed c.switch_is_allowed.ensures.same c.switch_is_allowed.ensures.compared c.hearing_is_exact.ensures.of_ticket c.hearing_is_exact.ensures.softened c.hearing_is_exact.ensures.at_rest)

pub returns-clause-list : goal.returns-clause-list
returns-clause-list c = list-second (laws-of c.decision_is_allowed.ensures c.changes_are_seen.ensures.same c.switch_is_allowed.ensures.allowed c.switch_is_allowed.ensures.same c.switch_is_allowed.ensures.compared c.hearing_is_exact.ensures.of_ticket c.hearing_is_exact.ensures.softened c.hearing_is_exact.ensures.at_rest)

pub returns-clause-full : goal.returns-clause-full
returns-clause-full c = full-without-room (laws-of c.decision_is_allowed.ensures c.changes_are_seen.ensures.same c.switch_is_allowed.ensures.allowed c.switch_is_allowed.ensures.same c.switch_is_allowed.ensures.compared c.hearing_is_exact.ensures.of_ticket c.hearing_is_exact.ensures.softened c.hearing_is_exact.ensures.at_rest)

pub returns-clause-memory : goal.returns-clause-memory
returns-clause-memory c = never-memory (laws-of c.decision_is_allowed.ensures c.changes_are_seen.ensures.same c.switch_is_allowed.ensures.allowed c.switch_is_allowed.ensures.same c.switch_is_allowed.ensures.compared c.hearing_is_exact.ensures.of_ticket c.hearing_is_exact.ensures.softened c.hearing_is_exact.ensures.at_rest)

pub returns-clause-effects : goal.returns-clause-effects
returns-clause-effects c = λ w v e done h. (step-done (laws-of c.decision_is_allowed.ensures c.changes_are_seen.ensures.same c.switch_is_allowed.ensures.allowed c.switch_is_allowed.ensures.same c.switch_is_allowed.ensures.compared c.hearing_is_exact.ensures.of_ticket c.hearing_is_exact.ensures.softened c.hearing_is_exact.ensures.at_rest) w e _ h).kind

pub returns-clause-messages : goal.returns-clause-messages
returns-clause-messages c = λ w v e done h. (step-done (laws-of c.decision_is_allowed.ensures c.changes_are_seen.ensures.same c.switch_is_allowed.ensures.allowed c.switch_is_allowed.ensures.same c.switch_is_allowed.ensures.compared c.hearing_is_exact.ensures.of_ticket c.hearing_is_exact.ensures.softened c.hearing_is_exact.ensures.at_rest) w e _ h).listed
