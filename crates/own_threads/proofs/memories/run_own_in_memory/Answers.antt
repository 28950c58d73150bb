use Rattle.std.proofs.Common.{◌≡◌, ◌+◌, ◌∷◌, [], ℕ, List, length, refl, sym, ap, subst, ◌∙◌, arith}
use denote.Param.Object.{read_made}
use Rattle.lock_messages.specs.declared.ids.Actor.TheVariants as actor
use Rattle.world_model.specs.Parts.{NodePart}
use Rattle.own_threads.specs.Memories.{opened_log}
use Rattle.own_threads.specs.Tasks.{IsNodeTask, with_found}
use Rattle.own_threads.proofs.Lists.{more_nodes, one_longer}
use Rattle.own_threads.proofs.memories.run_own_in_memory.OwnLists.{own-2, at-2-1}
use Rattle.own_threads.proofs.memories.run_own_in_memory.Goals as goal

-- the box finds what the record in it finds
pub loop-place-preserved : goal.loop-place-preserved
loop-place-preserved g c =
    let box = c.into_dyn_box in
    let nodes = c.loop-place.nodes.items in
    let node = c.in-Ok.actor in
    let log = opened_log (actor.Node node.node.number) node.list (NodePart node.node.part) in
    let more = c.in-Ok-push.ensures.items in
    let found : (own-2.entry box.result.vtable).1.finds box.result.value ≡ c.in-Ok.record ∷ [] =
    read_made own-2 (own-2.entry at-2-1) at-2-1 refl (List (List ℕ)) (λ j w. j.1.finds w) box.result.vtable box.result.value c.in-Ok-new.stable.value box.ensures.1 ∙ ap (λ (m : List ℕ). m ∷ []) c.in-Ok-new.ensures.ok in
    let count : c.in-Some.node ≡ 1 + length nodes = omega (arith, c.in-Some.ensures.1, c.loop-place.invariant.count) in
    record {
      count = one_longer nodes c.push.new.self.items _ c.loop-place.place more c.loop-place.invariant.count;
      ready = more_nodes (λ n. with_found (opened_log (actor.Node n.actor.node.number) n.actor.list (NodePart n.actor.node.part)) ((own-2.entry n.stable.vtable).1.finds n.stable.value)) 1 nodes c.push.new.self.items _ c.loop-place.invariant.ready
          (subst (λ k. IsNodeTask k log ((own-2.entry box.result.vtable).1.finds box.result.value)) count (subst (λ strings. IsNodeTask c.in-Some.node log strings) (sym found) c.in-Ok.ensures)) more;
    }
