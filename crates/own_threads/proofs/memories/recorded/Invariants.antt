use Rattle.std.proofs.Common.{◌≡◌, ◌+◌, ◌++◌, length, map}
use Rattle.std.specs.Vec.Iter.{into_iter_items}
use Rattle.own_threads.specs.Memories.{opened_log}
use Rattle.own_threads.specs.Tasks.{AreNodesReady, with_found}
use Rattle.own_threads.proofs.memories.recorded.Given as goal

-- the nodes that are left may run, and those before have their recorders
abbrev pub invariant-loop-node : goal.invariant-loop-node
invariant-loop-node g l = record {
  can : (goal.iterator-loop-node g).can_next l.node-iterator;
  finite : (goal.iterator-loop-node g).is_finite l.node-iterator;
  ready : AreNodesReady (1 + length l.starts.items) (map (λ n. with_found (opened_log (g.K.OwnActor.actor n.actor) (g.K.OwnActor.ballots n.actor) (g.K.OwnActor.part n.actor)) ((goal.StableRecord-dyn g (n.stable.vtable, n.stable.value)).finds n.stable.value)) (into_iter_items l.node-iterator));
  same : map (λ s. with_found s.recorder ((goal.StableRecord-dyn g (s.stable.vtable, s.stable.value)).finds s.stable.value)) l.starts.items
      ++ map (λ n. with_found (opened_log (g.K.OwnActor.actor n.actor) (g.K.OwnActor.ballots n.actor) (g.K.OwnActor.part n.actor)) ((goal.StableRecord-dyn g (n.stable.vtable, n.stable.value)).finds n.stable.value)) (into_iter_items l.node-iterator)
      ≡ map (λ n. with_found (opened_log (g.K.OwnActor.actor n.actor) (g.K.OwnActor.ballots n.actor) (g.K.OwnActor.part n.actor)) ((goal.StableRecord-dyn g (n.stable.vtable, n.stable.value)).finds n.stable.value)) l.fn.nodes.items;
}
