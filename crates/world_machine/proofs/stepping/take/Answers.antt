use Rattle.std.proofs.Common.{◌≡◌, ◌-◌, map, true, None, Some, refl, sym, ap, subst, inl, slice_set, arith}
use Rattle.world_model.specs.declared.events.Event.TheVariants as event
use Rattle.world_model.specs.ExactNodes.{takes_in}
use Rattle.world_model.specs.ExactWorlds.{numbered, step}
use Rattle.world_model.specs.StepsOf.{Does}
use Rattle.world_machine.specs.Doing.{Turned, read_turn}
use Rattle.world_machine.specs.Machines.{node_part, with_nodes}
use Rattle.world_model.specs.Numbered.{numbered-at, numbered-past}
use Rattle.world_machine.proofs.ActorFacts.{take-node, node-unknown, nodes-stay}
use Rattle.world_machine.proofs.stepping.take.Goals as goal

pub returns-then-index-len-clause-does : goal.returns-then-index-len-clause-does
returns-then-index-len-clause-does g c w is all order =
    let ns = c.args.nodes.now.items in
    let e = event.Take c.args.id c.args.number in
    let none : numbered ns c.args.id ≡ None = numbered-past ns c.args.id (omega (arith, c.get.ensures.number, c.get.ensures.in_range)) (omega (arith, c.get.ensures.number, c.args.nodes.now.ok.0)) in
    (inl (node-unknown w e c.args.id (λ v. takes_in c.args.id c.args.number v v.phase) ns refl is none), ap (with_nodes w) (sym is))

pub returns-clause-does : goal.returns-clause-does
returns-clause-does g c w is all order =
    let ns = c.args.nodes.now.items in
    let id = c.args.id in
    let e = event.Take id c.args.number in
    let k = c.get.result in
    let v = c.index_mut.result.now in
    let u = c.node_takes.new.node in
    let at : numbered ns k ≡ Some v = numbered-at ns k v (omega (arith, c.get.ensures.in_range)) (omega (arith, c.args.nodes.now.ok.0)) c.index_mut.ensures.value in
    subst (λ i. Does e (step w e) w c.node_takes.result (with_nodes w (map node_part (slice_set ns (i - 1) u)))) (sym c.get.ensures.number)
    (take-node w id c.args.number ns c.args.sent.now v u c.node_takes.result is all order (subst (λ i. numbered ns i ≡ Some v) c.get.ensures.number at) (subst (λ found. Turned true node_part (read_turn found (takes_in v.number c.args.number v.part v.part.phase)) v c.node_takes.result u) c.message_at-found.ensures c.node_takes.ensures.turned))

pub returns-clause-order : goal.returns-clause-order
returns-clause-order g c order =
    let ns = c.args.nodes.now.items in
    let k = c.get.result in
    let v = c.index_mut.result.now in
    let at : numbered ns k ≡ Some v = numbered-at ns k v (omega (arith, c.get.ensures.in_range)) (omega (arith, c.args.nodes.now.ok.0)) c.index_mut.ensures.value in
    nodes-stay ns k v c.node_takes.new.node at c.node_takes.ensures.number order
