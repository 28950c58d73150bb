use Rattle.std.proofs.Common.{rules, ap}
use Rattle.client_loop.specs.Visits.{Visits}
use Rattle.actor_steps.proofs.FindingFacts.{part_own}
use Rattle.client_loop.proofs.AttemptFacts.{begins_silently}
use Rattle.client_loop.proofs.FindingFacts.{stands_own}
use Rattle.client_loop.proofs.BeginFacts.{more_one}
use Rattle.client_loop.proofs.Logs.{visits-adds}
use Rattle.client_loop.proofs.attempting.begin.Goals as goal

pub returns-clause-chooses : goal.returns-clause-chooses
returns-clause-chooses g c =
    let more = visits-adds _ _ _ _ c.in_ok-log_plain.ensures.logged in
    record { chosen = search rules; begun = record { begun = ap (λ (v : Visits). v.begun) more; more = more_one _ _ _ more; ticket = search rules } }

pub returns-clause-goes_on : goal.returns-clause-goes_on
returns-clause-goes_on g c = record { silent = begins_silently _ _ _ _ _ _ _ c.in_ok-log_plain.ensures.logged; up = search (rules, part_own, stands_own) }
