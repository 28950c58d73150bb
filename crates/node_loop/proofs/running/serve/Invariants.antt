use Rattle.std.specs.Prelude.{Ok}
use Rattle.node_loop.specs.Turns.{moment, Turns}
use Rattle.node_loop.proofs.running.serve.Given as goal

-- between two posts the node has taken its turns
abbrev pub invariant-loop : goal.invariant-loop
invariant-loop g l =
    let before = moment l.fn.core (g.R.Recorder.own_log l.fn.recorder) (g.S.StableRecord.finds l.fn.stable) (g.S.StableRecord.stuck_of l.fn.stable) (g.S.StableRecord.spent_of l.fn.stable) (g.S.StableRecord.failures_of l.fn.stable) (g.L.Link.given l.fn.link) in
    let now = moment l.core (g.R.Recorder.own_log l.recorder) (g.S.StableRecord.finds l.stable) (g.S.StableRecord.stuck_of l.stable) (g.S.StableRecord.spent_of l.stable) (g.S.StableRecord.failures_of l.stable) (g.L.Link.given l.link) in
    Turns (Ok tt) before now
