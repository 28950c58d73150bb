use Rattle.std.proofs.Common.{◌-◌, ◌≤◌}
use Rattle.actor_steps.specs.declared.reopening.TheConstants.{MAX_REOPENS}
use Rattle.actor_steps.specs.Steps.{HasNotReopened}
use Rattle.actor_steps.proofs.reopening.reopened.Given as goal

-- nothing new is found, and as many reopens have failed as are counted
abbrev pub invariant-loop-failed : goal.invariant-loop-failed
invariant-loop-failed g l = record {
  few : l.failed ≤ MAX_REOPENS;
  so : HasNotReopened l.failed (g.S.StableRecord.finds l.fn.stable) (g.S.StableRecord.finds l.stable)
      (g.S.StableRecord.failures_of l.fn.stable) (g.S.StableRecord.failures_of l.stable);
}

abbrev pub decreases-loop-failed : goal.decreases-loop-failed
decreases-loop-failed g l = MAX_REOPENS - l.failed
