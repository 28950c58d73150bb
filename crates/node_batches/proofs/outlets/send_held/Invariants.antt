use Rattle.std.specs.Vec.Iter.{into_iter_items}
use Rattle.node_loop.specs.Unsent.{HasGiven}
use Rattle.node_batches.proofs.outlets.send_held.Given as goal

-- a beginning was sent, and the rest is left
abbrev pub invariant-loop-sending : goal.invariant-loop-sending
invariant-loop-sending g l = HasGiven l.fn.held.items (into_iter_items l.sending-iterator) (g.L.Link.given l.fn.link) (g.L.Link.given l.link)
