use Rattle.std.proofs.Common.{◌≡◌, ◌-◌, map, None, Some, sym, ap, subst, inl, slice_set, arith}
use Rattle.world_model.specs.ExactWorlds.{numbered, step}
use Rattle.world_model.specs.StepsOf.{Does}
use Rattle.world_machine.specs.Doing.{client_event, client_turn}
use Rattle.world_machine.specs.Machines.{client_part, with_clients}
use Rattle.world_model.specs.Numbered.{numbered-at, numbered-past}
use Rattle.world_machine.proofs.TurnFacts.{client-deed}
use Rattle.world_machine.proofs.ActorFacts.{act-client, client-unknown, clients-stay}
use Rattle.world_machine.proofs.stepping.act_client.Goals as goal

pub returns-then-index-len-clause-does : goal.returns-then-index-len-clause-does
returns-then-index-len-clause-does c w is order =
    let cs = c.args.clients.now.items in
    let e = client_event c.args.id c.args.act in
    let none : numbered cs c.args.id ≡ None = numbered-past cs c.args.id (omega (arith, c.get.ensures.number, c.get.ensures.in_range)) (omega (arith, c.get.ensures.number, c.args.clients.now.ok.0)) in
    (inl (client-unknown w e c.args.id (λ b k. client_turn c.args.act c.args.id b k) cs (client-deed c.args.id c.args.act) is none), ap (with_clients w) (sym is))

pub returns-clause-does : goal.returns-clause-does
returns-clause-does c w is order =
    let cs = c.args.clients.now.items in
    let id = c.args.id in
    let e = client_event id c.args.act in
    let k = c.get.result in
    let v = c.index_mut.result.now in
    let u = c.client_acts.new.client in
    let at : numbered cs k ≡ Some v = numbered-at cs k v (omega (arith, c.get.ensures.in_range)) (omega (arith, c.args.clients.now.ok.0)) c.index_mut.ensures.value in
    subst (λ i. Does e (step w e) w c.client_acts.result (with_clients w (map client_part (slice_set cs (i - 1) u)))) (sym c.get.ensures.number)
    (act-client w id c.args.act cs v u c.client_acts.result is order (subst (λ i. numbered cs i ≡ Some v) c.get.ensures.number at) c.client_acts.ensures.turned)

pub returns-clause-order : goal.returns-clause-order
returns-clause-order c b order =
    let cs = c.args.clients.now.items in
    let k = c.get.result in
    let v = c.index_mut.result.now in
    let at : numbered cs k ≡ Some v = numbered-at cs k v (omega (arith, c.get.ensures.in_range)) (omega (arith, c.args.clients.now.ok.0)) c.index_mut.ensures.value in
    clients-stay b cs k v c.client_acts.new.client at c.client_acts.ensures.number c.client_acts.ensures.ballots order
