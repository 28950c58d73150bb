use Rattle.std.proofs.Common.{◌≡◌}
use Rattle.actor_steps.specs.Endings.{falls_of, FailuresFollow}
use Rattle.client_loop.specs.Attempting.{BeginsSilently}
use Rattle.client_loop.specs.Endings.{IsAtRest}
use Rattle.client_loop.specs.Visits.{use_of}
use Rattle.client_loop.proofs.attempting.attempt.Given as goal

abbrev pub invariant-loop : goal.invariant-loop
invariant-loop g l = record {
  next : (goal.iterator-loop g).can_next l.iterator';
  finite : (goal.iterator-loop g).is_finite l.iterator';
  rests : IsAtRest (g.R.Recorder.own_log l.recorder) (g.S.StableRecord.finds l.stable) (g.S.StableRecord.stuck_of l.stable) l.progress.core;
  silent : BeginsSilently (use_of l.wish) (g.R.Recorder.own_log l.fn.recorder) (g.R.Recorder.own_log l.recorder);
  most : l.progress.most_nudges ≡ l.fn.progress.most_nudges;
  falls : FailuresFollow (falls_of (g.R.Recorder.own_log l.fn.recorder)) (falls_of (g.R.Recorder.own_log l.recorder)) (g.S.StableRecord.failures_of l.fn.stable)
      (g.S.StableRecord.failures_of l.stable);
}
