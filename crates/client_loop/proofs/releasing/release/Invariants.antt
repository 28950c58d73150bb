use Rattle.std.proofs.Common.{◌≡◌}
use Rattle.client_loop.specs.Remembering.{KeepsAsking}
use Rattle.client_loop.specs.Talking.{Talks}
use Rattle.client_loop.proofs.releasing.release.Given as goal

abbrev pub invariant-loop : goal.invariant-loop
invariant-loop g l = record {
  talks : Talks (g.R.Recorder.own_log l.fn.recorder) (g.R.Recorder.own_log l.recorder) (g.L.Link.given l.fn.link) (g.L.Link.given l.link) (g.S.StableRecord.finds l.stable) l.progress.core;
  keeps : KeepsAsking l.fn.progress l.progress;
  asked : l.progress.asked ≡ l.fn.progress.asked;
}
