use Rattle.std.proofs.Common.{◌-◌}
use Rattle.client_loop.specs.Sendings.{TellsEach, nodes_of, soften_of}
use Rattle.client_loop.specs.Talking.{Talks}
use Rattle.client_loop.proofs.softening.tell_granted.Given as goal

abbrev pub invariant-loop-number : goal.invariant-loop-number
invariant-loop-number g l = record {
  talks : Talks (g.R.Recorder.own_log l.fn.recorder) (g.R.Recorder.own_log l.recorder) (g.L.Link.given l.fn.link) (g.L.Link.given l.link) (g.S.StableRecord.finds l.stable) l.core;
  told : TellsEach (nodes_of l.granted (l.number - 1)) (soften_of l.core.client l.core.attempt) (g.R.Recorder.own_log l.fn.recorder) (g.R.Recorder.own_log l.recorder);
}
