use Rattle.std.proofs.Common.{◌≡◌, false}
use Rattle.client_core.specs.Clients.{phase_of}
use Rattle.client_core.specs.declared.phases.Phase.TheVariants as phase
use Rattle.actor_steps.specs.Endings.{falls_of, FailuresFollow}
use Rattle.client_loop.specs.Sendings.{SentFollows}
use Rattle.client_loop.specs.Standing.{Stands}
use Rattle.client_loop.specs.Visits.{HasEntered, HasSoftened, HasBegun}
use Rattle.client_loop.proofs.clients.fulfil_all.Given as goal

abbrev pub invariant-loop-wish : goal.invariant-loop-wish
invariant-loop-wish g l = record {
  stands : Stands (g.R.Recorder.own_log l.recorder) (g.S.StableRecord.finds l.stable) l.progress.core;
  free : g.S.StableRecord.stuck_of l.stable ≡ false;
  idle : phase_of l.progress.core ≡ phase.Idle;
  entered : HasEntered l.wishes l.entered (g.R.Recorder.own_log l.recorder);
  softened : HasSoftened l.wishes l.entered (g.R.Recorder.own_log l.recorder);
  count : l.entered ≡ l.wish-index;
  sent : SentFollows (g.R.Recorder.own_log l.fn.recorder) (g.R.Recorder.own_log l.recorder) (g.L.Link.given l.fn.link) (g.L.Link.given l.link);
  falls : FailuresFollow (falls_of (g.R.Recorder.own_log l.fn.recorder)) (falls_of (g.R.Recorder.own_log l.recorder)) (g.S.StableRecord.failures_of l.fn.stable)
      (g.S.StableRecord.failures_of l.stable);
  ballots : (g.R.Recorder.own_log l.recorder).ballots ≡ (g.R.Recorder.own_log l.fn.recorder).ballots;
  begun : HasBegun (g.R.Recorder.own_log l.fn.recorder).actor l.wishes (g.R.Recorder.own_log l.recorder);
}
