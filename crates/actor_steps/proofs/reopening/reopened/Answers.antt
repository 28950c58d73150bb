use Rattle.std.proofs.Common.{◌≡◌, ◌+◌, arith, subst, sym}
use Rattle.lock_model.specs.Decisions.{Among}
use Rattle.actor_steps.specs.Steps.{HasNotReopened, IsReopened}
use Rattle.actor_steps.proofs.ReopenFacts.{found_since, once_more, if_some, if_none}
use Rattle.actor_steps.proofs.reopening.reopened.Goals as goal

pub returns-in-Some-clause-found : goal.returns-in-Some-clause-found
returns-in-Some-clause-found g c =
    let before = g.S.StableRecord.finds c.loop-failed.stable in
    let now = g.S.StableRecord.finds c.reopen_once.new.stable in
    let stuck = g.S.StableRecord.stuck_of c.reopen_once.new.stable in
    let once = if_some (λ v. IsReopened v.items before now stuck × (c.reopen_once.new.failed ≡ c.loop-failed.failed)) c.in_ok-found.found c.in-Some.bytes c.in-Some.is c.in_ok-found.ensures.found in
    found_since c.loop-failed.failed c.in-Some.bytes.items _ before now _ _ stuck c.loop-failed.invariant.so once.0

pub loop-failed-preserved : goal.loop-failed-preserved
loop-failed-preserved g c =
    let before = g.S.StableRecord.finds c.loop-failed.stable in
    let now = g.S.StableRecord.finds c.reopen_once.new.stable in
    let counted = g.S.StableRecord.failures_of c.loop-failed.stable in
    let counts = g.S.StableRecord.failures_of c.reopen_once.new.stable in
    let once = if_none (HasNotReopened 1 before now counted counts × (c.reopen_once.new.failed ≡ c.loop-failed.failed + 1)) c.in_ok-found.found c.in-None.is c.in_ok-found.ensures.failed in
    let first = g.S.StableRecord.finds c.args.stable.now in
    let since = g.S.StableRecord.failures_of c.args.stable.now in
    let more = once_more c.loop-failed.failed first before now since counted counts c.loop-failed.invariant.so once.0 in
    record {
      few = omega (arith, once.1);
      so = subst (λ times. HasNotReopened times first now since counts) (sym once.1) more;
    }

-- memory was refused, and so nothing has changed since
pub returns-in_err-found-clause-only : goal.returns-in_err-found-clause-only
returns-in_err-found-clause-only g c = λ x there. c.loop-failed.invariant.so.found x (subst (λ s. Among x s) c.in_err-found.ensures.unchanged.0 there)
