use Rattle.std.proofs.Common.{◌≡◌, length, map}
use Rattle.lock_messages.specs.declared.ids.Actor.TheVariants as actor
use Rattle.world_model.specs.Parts.{NodePart}
use Rattle.own_threads.specs.Memories.{opened_log}
use Rattle.own_threads.specs.Tasks.{AreNodesReady}
use Rattle.own_threads.proofs.memories.run_own_in_memory.OwnLists.{own-2}
use Rattle.own_threads.proofs.memories.run_own_in_memory.Given as goal

-- so many nodes are there, and each may run
abbrev pub invariant-loop-place : goal.invariant-loop-place
invariant-loop-place g l = record {
  count : length l.nodes.items ≡ l.place;
  ready : AreNodesReady 1 (map (λ n. (opened_log (actor.Node n.actor.node.number) n.actor.list (NodePart n.actor.node.part), (own-2.entry n.stable.vtable).1.finds n.stable.value)) l.nodes.items);
}
