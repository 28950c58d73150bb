use Rattle.std.proofs.Common.{refl, rules}
use Rattle.actor_steps.proofs.EndFacts.{failures_stay, failures_rise}
use Rattle.actor_steps.proofs.FindingFacts.{part_own}
use Rattle.client_loop.proofs.AttemptFacts.{added_silently, most_silently, silently_after, agrees_on}
use Rattle.client_loop.proofs.attempting.keep_chosen.Goals as goal

pub returns-in-Kept-clause-goes_on : goal.returns-in-Kept-clause-goes_on
returns-in-Kept-clause-goes_on g c =
    let kept = (c.in_ok-keeping.ensures.kept cc).0 in
    record { silent = silently_after _ _ _ (added_silently _ _ _ _ kept.tried refl (λ v. refl)) (added_silently _ _ _ _ kept.kept refl (λ v. refl)); agrees = search (rules, failures_stay, part_own) }

-- the keep failed, and then the client fell

pub returns-in_err-rise_anew-in-Failed-clause-goes_on : goal.returns-in_err-rise_anew-in-Failed-clause-goes_on
returns-in_err-rise_anew-in-Failed-clause-goes_on g c =
    let failed = c.in_ok-keeping.ensures.failed cc in
    let fell = c.rise_anew.ensures.goes_on in
    record { silent = silently_after _ _ _ (added_silently _ _ _ _ failed.tried refl (λ v. refl)) fell.silent; agrees = agrees_on _ _ _ _ _ _ _ (failures_rise _ _ _ _ c.keep_next.ensures.falls failed.counted) fell.agrees }

pub returns-in_ok-rise_anew-in-Failed-clause-goes_on : goal.returns-in_ok-rise_anew-in-Failed-clause-goes_on
returns-in_ok-rise_anew-in-Failed-clause-goes_on g c =
    let failed = c.in_ok-keeping.ensures.failed cc in
    let fell = c.rise_anew.ensures.goes_on in
    record { silent = silently_after _ _ _ (added_silently _ _ _ _ failed.tried refl (λ v. refl)) fell.silent; agrees = agrees_on _ _ _ _ _ _ _ (failures_rise _ _ _ _ c.keep_next.ensures.falls failed.counted) fell.agrees }

pub returns-in_err-keeping-clause-goes_on : goal.returns-in_err-keeping-clause-goes_on
returns-in_err-keeping-clause-goes_on g c = record { silent = most_silently _ _ _ _ c.in_err-keeping.ensures.ended.log refl (λ v. refl); agrees = search (rules, failures_stay, part_own) }
