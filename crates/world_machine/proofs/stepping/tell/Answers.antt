use Rattle.std.proofs.Common.{◌≡◌, None, Some, refl, sym, ap, subst, inl, arith}
use Rattle.world_model.specs.declared.events.Event.TheVariants as event
use Rattle.world_model.specs.ExactClients.{tells}
use Rattle.world_model.specs.ExactWorlds.{numbered}
use Rattle.world_machine.specs.Machines.{client_part, with_sent}
use Rattle.world_model.specs.Numbered.{numbered-at, numbered-past}
use Rattle.world_machine.proofs.ActorFacts.{tell-client, client-unknown, spoke-room}
use Rattle.world_machine.proofs.stepping.tell.Goals as goal

pub returns-then-index-clients-clause-does : goal.returns-then-index-clients-clause-does
returns-then-index-clients-clause-does c w is all order =
    let cs = c.args.clients.now in
    let none : numbered cs c.args.id ≡ None = numbered-past cs c.args.id (omega (arith, c.get.ensures.number, c.get.ensures.in_range)) (omega (arith, c.get.ensures.number)) in
    (inl (client-unknown w (event.SayTo c.args.id c.args.node) c.args.id (λ b k. tells b c.args.id c.args.node k) cs refl is none), ap (with_sent w) (sym all))

pub returns-clause-does : goal.returns-clause-does
returns-clause-does c w is all order =
    let cs = c.args.clients.now in
    let k = c.get.result in
    let v = c.index-clients-index.result in
    let at : numbered cs k ≡ Some v = numbered-at cs k v (omega (arith, c.get.ensures.in_range)) (omega (arith, c.if-index-clients.false)) c.index-clients-index.is in
    tell-client w c.args.id c.args.node cs c.args.sent.now.items c.client_tells.new.sent.items v c.client_tells.result is all order (subst (λ i. numbered cs i ≡ Some v) c.get.ensures.number at) c.client_tells.ensures

pub returns-clause-room : goal.returns-clause-room
returns-clause-room c = spoke-room client_part _ c.args.sent.now.items _ c.client_tells.result _ c.client_tells.new.sent.items c.requires c.client_tells.ensures
