use Rattle.client_loop.specs.Remembering.{KeepsAsking}
use Rattle.client_loop.specs.Talking.{Talks}
use Rattle.client_loop.proofs.asking.ask.Given as goal

abbrev pub invariant-loop : goal.invariant-loop
invariant-loop g l = record {
  next : (goal.iterator-loop g).can_next l.iterator';
  finite : (goal.iterator-loop g).is_finite l.iterator';
  talks : Talks (g.R.Recorder.own_log l.fn.recorder) (g.R.Recorder.own_log l.recorder) (g.L.Link.given l.fn.link) (g.L.Link.given l.link) (g.S.StableRecord.finds l.stable) l.progress.core;
  keeps : KeepsAsking l.fn.progress l.progress;
}
