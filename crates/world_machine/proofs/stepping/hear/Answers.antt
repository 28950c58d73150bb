use Rattle.std.proofs.Common.{◌≡◌, ◌-◌, map, false, None, Some, refl, sym, ap, subst, inl, slice_set, arith}
use Rattle.lock_model.specs.Ballots.{node_count}
use Rattle.world_model.specs.declared.events.Event.TheVariants as event
use Rattle.world_model.specs.ExactClients.{hears}
use Rattle.world_model.specs.ExactWorlds.{numbered, step}
use Rattle.world_model.specs.StepsOf.{Does}
use Rattle.world_machine.specs.Doing.{Turned, read_turn}
use Rattle.world_machine.specs.Machines.{client_part, with_clients}
use Rattle.world_model.specs.Numbered.{numbered-at, numbered-past}
use Rattle.world_machine.proofs.ActorFacts.{hear-client, client-unknown, clients-stay}
use Rattle.world_machine.proofs.stepping.hear.Goals as goal

pub returns-then-index-len-clause-does : goal.returns-then-index-len-clause-does
returns-then-index-len-clause-does c w is all order =
    let cs = c.args.clients.now.items in
    let e = event.Hear c.args.id c.args.number in
    let none : numbered cs c.args.id ≡ None = numbered-past cs c.args.id (omega (arith, c.get.ensures.number, c.get.ensures.in_range)) (omega (arith, c.get.ensures.number, c.args.clients.now.ok.0)) in
    (inl (client-unknown w e c.args.id (λ b k. hears (node_count b) c.args.id c.args.number k) cs refl is none), ap (with_clients w) (sym is))

pub returns-clause-does : goal.returns-clause-does
returns-clause-does c w is all order =
    let cs = c.args.clients.now.items in
    let id = c.args.id in
    let e = event.Hear id c.args.number in
    let k = c.get.result in
    let v = c.index_mut.result.now in
    let u = c.client_hears.new.client in
    let at : numbered cs k ≡ Some v = numbered-at cs k v (omega (arith, c.get.ensures.in_range)) (omega (arith, c.args.clients.now.ok.0)) c.index_mut.ensures.value in
    subst (λ i. Does e (step w e) w c.client_hears.result (with_clients w (map client_part (slice_set cs (i - 1) u)))) (sym c.get.ensures.number)
    (hear-client w id c.args.number cs c.args.sent.now v u c.client_hears.result is all order (subst (λ i. numbered cs i ≡ Some v) c.get.ensures.number at) (subst (λ found. Turned false client_part (read_turn found (hears (node_count v.ballots) v.number c.args.number v.part)) v c.client_hears.result u) c.message_at-found.ensures c.client_hears.ensures.turned))

pub returns-clause-order : goal.returns-clause-order
returns-clause-order c b order =
    let cs = c.args.clients.now.items in
    let k = c.get.result in
    let v = c.index_mut.result.now in
    let at : numbered cs k ≡ Some v = numbered-at cs k v (omega (arith, c.get.ensures.in_range)) (omega (arith, c.args.clients.now.ok.0)) c.index_mut.ensures.value in
    clients-stay b cs k v c.client_hears.new.client at c.client_hears.ensures.number c.client_hears.ensures.ballots order
