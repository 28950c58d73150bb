use Rattle.std.proofs.Common.{◌≡◌, ◌-◌, map, None, Some, sym, ap, subst, inl, slice_set, arith}
use Rattle.world_model.specs.ExactWorlds.{numbered, step}
use Rattle.world_model.specs.StepsOf.{Does}
use Rattle.world_machine.specs.Doing.{node_event, node_turn}
use Rattle.world_machine.specs.Machines.{node_part, with_nodes}
use Rattle.world_model.specs.Numbered.{numbered-at, numbered-past}
use Rattle.world_machine.proofs.TurnFacts.{node-deed}
use Rattle.world_machine.proofs.ActorFacts.{act-node, node-unknown, nodes-stay}
use Rattle.world_machine.proofs.stepping.act_node.Goals as goal

pub returns-then-index-len-clause-does : goal.returns-then-index-len-clause-does
returns-then-index-len-clause-does g c w is order =
    let ns = c.args.nodes.now.items in
    let e = node_event c.args.id c.args.act in
    let none : numbered ns c.args.id ≡ None = numbered-past ns c.args.id (omega (arith, c.get.ensures.number, c.get.ensures.in_range)) (omega (arith, c.get.ensures.number, c.args.nodes.now.ok.0)) in
    (inl (node-unknown w e c.args.id (λ v. node_turn c.args.act c.args.id v) ns (node-deed c.args.id c.args.act) is none), ap (with_nodes w) (sym is))

pub returns-clause-does : goal.returns-clause-does
returns-clause-does g c w is order =
    let ns = c.args.nodes.now.items in
    let id = c.args.id in
    let e = node_event id c.args.act in
    let k = c.get.result in
    let v = c.index_mut.result.now in
    let u = c.node_acts.new.node in
    let at : numbered ns k ≡ Some v = numbered-at ns k v (omega (arith, c.get.ensures.in_range)) (omega (arith, c.args.nodes.now.ok.0)) c.index_mut.ensures.value in
    subst (λ i. Does e (step w e) w c.node_acts.result (with_nodes w (map node_part (slice_set ns (i - 1) u)))) (sym c.get.ensures.number)
    (act-node w id c.args.act ns v u c.node_acts.result is order (subst (λ i. numbered ns i ≡ Some v) c.get.ensures.number at) c.node_acts.ensures.turned)

pub returns-clause-order : goal.returns-clause-order
returns-clause-order g c order =
    let ns = c.args.nodes.now.items in
    let k = c.get.result in
    let v = c.index_mut.result.now in
    let at : numbered ns k ≡ Some v = numbered-at ns k v (omega (arith, c.get.ensures.in_range)) (omega (arith, c.args.nodes.now.ok.0)) c.index_mut.ensures.value in
    nodes-stay ns k v c.node_acts.new.node at c.node_acts.ensures.number order
