use Rattle.std.proofs.Common.{◌≡◌, ◌-◌, map, None, Some, refl, sym, ◌∙◌, ap, subst, inl, slice_set, arith}
use Rattle.world_model.specs.declared.events.Event.TheVariants as event
use Rattle.world_model.specs.ExactNodes.{says_in}
use Rattle.world_model.specs.ExactWorlds.{numbered, step}
use Rattle.world_model.specs.StepsOf.{Does}
use Rattle.world_machine.specs.Machines.{node_part, with_nodes, with_sent}
use Rattle.world_model.specs.Numbered.{numbered-at, numbered-past}
use Rattle.world_machine.proofs.ActorFacts.{say-node, node-unknown, nodes-stay, spoke-room}
use Rattle.world_machine.proofs.stepping.say.Goals as goal

pub returns-then-index-len-clause-does : goal.returns-then-index-len-clause-does
returns-then-index-len-clause-does g c w is all =
    let ns = c.args.nodes.now.items in
    let e = event.Say c.args.id in
    let none : numbered ns c.args.id ≡ None = numbered-past ns c.args.id (omega (arith, c.get.ensures.number, c.get.ensures.in_range)) (omega (arith, c.get.ensures.number, c.args.nodes.now.ok.0)) in
    (inl (node-unknown w e c.args.id (λ v. says_in v v.phase) ns refl is none), ap (λ xs. with_sent (with_nodes w xs) c.args.sent.now.items) (sym is) ∙ ap (with_sent w) (sym all))

pub returns-clause-does : goal.returns-clause-does
returns-clause-does g c w is all =
    let ns = c.args.nodes.now.items in
    let id = c.args.id in
    let e = event.Say id in
    let k = c.get.result in
    let v = c.index_mut.result.now in
    let u = c.node_says.new.node in
    let at : numbered ns k ≡ Some v = numbered-at ns k v (omega (arith, c.get.ensures.in_range)) (omega (arith, c.args.nodes.now.ok.0)) c.index_mut.ensures.value in
    subst (λ i. Does e (step w e) w c.node_says.result (with_sent (with_nodes w (map node_part (slice_set ns (i - 1) u))) c.node_says.new.sent.items)) (sym c.get.ensures.number)
    (say-node w id ns c.args.sent.now.items c.node_says.new.sent.items v u c.node_says.result is all (subst (λ i. numbered ns i ≡ Some v) c.get.ensures.number at) c.node_says.ensures.spoke)

pub returns-clause-order : goal.returns-clause-order
returns-clause-order g c order =
    let ns = c.args.nodes.now.items in
    let k = c.get.result in
    let v = c.index_mut.result.now in
    let at : numbered ns k ≡ Some v = numbered-at ns k v (omega (arith, c.get.ensures.in_range)) (omega (arith, c.args.nodes.now.ok.0)) c.index_mut.ensures.value in
    nodes-stay ns k v c.node_says.new.node at c.node_says.ensures.number order

pub returns-clause-room : goal.returns-clause-room
returns-clause-room g c = spoke-room node_part _ c.args.sent.now.items c.index_mut.result.now c.node_says.result c.node_says.new.node c.node_says.new.sent.items c.requires c.node_says.ensures.spoke
