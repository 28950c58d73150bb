use Rattle.std.specs.Prelude.{◌≡◌}
use Rattle.actor_steps.specs.Sendings.{SentFollows}
use Rattle.node_loop.specs.Standing.{as_opened}
use Rattle.node_batches.specs.Batches.{Rests}
use Rattle.node_batches.proofs.running.serve_batches.Given as goal

-- between two batches all has gone out
abbrev pub invariant-loop : goal.invariant-loop
invariant-loop g l =
    let stable = goal.StableRecord-dyn g l.stable.now in
    Rests l.recorder.log l.desk.core l.desk.copy (stable.finds l.stable.now.1) (stable.stuck_of l.stable.now.1)
    × SentFollows l.fn.recorder.log l.recorder.log (g.L.Link.given l.fn.link) (g.L.Link.given l.link)
    × (as_opened l.recorder.log ≡ as_opened l.fn.recorder.log)
