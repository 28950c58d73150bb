use Rattle.std.proofs.Common.{map, refl, sym, ◌∙◌, ap, subst}
use Rattle.world_model.specs.ExactWorlds.{step}
use Rattle.world_model.specs.StepsOf.{Does}
use Rattle.world_machine.specs.Doing.{event_of}
use Rattle.world_machine.specs.Machines.{client_part, world_view, AreClients}
use Rattle.world_machine.proofs.stepping.take_step.Goals as goal

pub returns-in-Node-clause-does : goal.returns-in-Node-clause-does
returns-in-Node-clause-does g c =
    let w = world_view c.args.ballots.now c.args.nodes.now.items c.args.clients.now.items c.args.sent.now.items in
    subst (λ e. Does e (step w e) w c.act_node.result (world_view c.args.ballots.now c.act_node.new.nodes.items c.args.clients.now.items c.args.sent.now.items)) (ap event_of (sym c.in-Node.is) ∙ c.turn_of.ensures)
    (c.act_node.ensures.does w refl c.requires.nodes)

pub returns-in-Node-clause-order : goal.returns-in-Node-clause-order
returns-in-Node-clause-order g c = record { nodes = c.act_node.ensures.order c.requires.nodes; clients = c.requires.clients; room = c.requires.room }

pub returns-in-Client-clause-does : goal.returns-in-Client-clause-does
returns-in-Client-clause-does g c =
    let w = world_view c.args.ballots.now c.args.nodes.now.items c.args.clients.now.items c.args.sent.now.items in
    subst (λ e. Does e (step w e) w c.act_client.result (world_view c.args.ballots.now c.args.nodes.now.items c.act_client.new.clients.items c.args.sent.now.items)) (ap event_of (sym c.in-Client.is) ∙ c.turn_of.ensures)
    (c.act_client.ensures.does w refl c.requires.clients)

pub returns-in-Client-clause-order : goal.returns-in-Client-clause-order
returns-in-Client-clause-order g c = record { nodes = c.requires.nodes; clients = c.act_client.ensures.order c.args.ballots.now c.requires.clients; room = c.requires.room }

pub returns-in-Tells-clause-does : goal.returns-in-Tells-clause-does
returns-in-Tells-clause-does g c =
    let w = world_view c.args.ballots.now c.args.nodes.now.items c.args.clients.now.items c.args.sent.now.items in
    subst (λ e. Does e (step w e) w c.tell.result (world_view c.args.ballots.now c.args.nodes.now.items c.args.clients.now.items c.tell.new.sent.items)) (ap event_of (sym c.in-Tells.is) ∙ c.turn_of.ensures)
    (c.tell.ensures.does w (ap (map client_part) (sym c.deref.ensures.value)) refl (subst (AreClients c.args.ballots.now) (sym c.deref.ensures.value) c.requires.clients))

pub returns-in-Tells-clause-order : goal.returns-in-Tells-clause-order
returns-in-Tells-clause-order g c = record { nodes = c.requires.nodes; clients = c.requires.clients; room = c.tell.ensures.room }

pub returns-in-Says-clause-does : goal.returns-in-Says-clause-does
returns-in-Says-clause-does g c =
    let w = world_view c.args.ballots.now c.args.nodes.now.items c.args.clients.now.items c.args.sent.now.items in
    subst (λ e. Does e (step w e) w c.say.result (world_view c.args.ballots.now c.say.new.nodes.items c.args.clients.now.items c.say.new.sent.items)) (ap event_of (sym c.in-Says.is) ∙ c.turn_of.ensures)
    (c.say.ensures.does w refl refl)

pub returns-in-Says-clause-order : goal.returns-in-Says-clause-order
returns-in-Says-clause-order g c = record { nodes = c.say.ensures.order c.requires.nodes; clients = c.requires.clients; room = c.say.ensures.room }

pub returns-in-Takes-clause-does : goal.returns-in-Takes-clause-does
returns-in-Takes-clause-does g c =
    let w = world_view c.args.ballots.now c.args.nodes.now.items c.args.clients.now.items c.args.sent.now.items in
    subst (λ e. Does e (step w e) w c.take.result (world_view c.args.ballots.now c.take.new.nodes.items c.args.clients.now.items c.args.sent.now.items)) (ap event_of (sym c.in-Takes.is) ∙ c.turn_of.ensures)
    (c.take.ensures.does w refl (sym c.deref-in-Takes.ensures.value) c.requires.nodes)

pub returns-in-Takes-clause-order : goal.returns-in-Takes-clause-order
returns-in-Takes-clause-order g c = record { nodes = c.take.ensures.order c.requires.nodes; clients = c.requires.clients; room = c.requires.room }

pub returns-in-Hears-clause-does : goal.returns-in-Hears-clause-does
returns-in-Hears-clause-does g c =
    let w = world_view c.args.ballots.now c.args.nodes.now.items c.args.clients.now.items c.args.sent.now.items in
    subst (λ e. Does e (step w e) w c.hear.result (world_view c.args.ballots.now c.args.nodes.now.items c.hear.new.clients.items c.args.sent.now.items)) (ap event_of (sym c.in-Hears.is) ∙ c.turn_of.ensures)
    (c.hear.ensures.does w refl (sym c.deref-in-Hears.ensures.value) c.requires.clients)

pub returns-in-Hears-clause-order : goal.returns-in-Hears-clause-order
returns-in-Hears-clause-order g c = record { nodes = c.requires.nodes; clients = c.hear.ensures.order c.args.ballots.now c.requires.clients; room = c.requires.room }
