use Rattle.std.proofs.Common.{◌≡◌}
use Rattle.client_loop.specs.Talking.{Talks}
use Rattle.client_loop.proofs.asking.ask_together.Given as goal

abbrev pub invariant-loop-number : goal.invariant-loop-number
invariant-loop-number g l = record {
  talks : Talks (g.R.Recorder.own_log l.fn.recorder) (g.R.Recorder.own_log l.recorder) (g.L.Link.given l.fn.link) (g.L.Link.given l.link) (g.S.StableRecord.finds l.stable) l.progress.core;
  others : l.progress ≡ record l.fn.progress { asked = l.progress.asked };
}
