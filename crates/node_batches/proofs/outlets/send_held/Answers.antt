use Rattle.std.proofs.Common.{rules}
use Rattle.std.specs.Vec.Iter.{into_iter_items}
use Rattle.node_batches.proofs.BatchFacts.{one_given}
use Rattle.node_batches.proofs.outlets.send_held.Goals as goal

pub loop-sending-preserved : goal.loop-sending-preserved
loop-sending-preserved g c =
    one_given _ _ (into_iter_items c.next.new.self) c.in-Some.sending _ (g.L.Link.given c.loop-sending.link) _ c.in-Some.ensures.steps.0 c.loop-sending.invariant (search rules)
