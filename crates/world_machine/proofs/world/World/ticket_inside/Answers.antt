use Rattle.std.proofs.Common.{◌≡◌, sym, subst}
use Rattle.std.specs.Prelude.{IfSome}
use Rattle.world_model.specs.Forgetting.{forget, IsSound}
use Rattle.world_machine.specs.Listing.{IsInsideBy}
use Rattle.world_machine.proofs.ListingFacts.{clients-of, inside-by, own_ticket}
use Rattle.world_machine.proofs.world.World.ticket_inside.Goals as goal

pub returns-clause-ticket : goal.returns-clause-ticket
returns-clause-ticket g c =
    let s = c.self.inside in
    let w = c.args.self.now in
    c.ticket_inside.ensures w (clients-of w s.ballots s.nodes.items s.clients.items s.sent.items c.deref.result.now c.self.view_is c.deref.ensures.value)

pub returns-clause-set : goal.returns-clause-set
returns-clause-set g c =
    let w = c.args.self.now in
    subst (IsInsideBy (forget w) c.args.client) (sym (returns-clause-ticket g c)) (inside-by w c.args.client)

-- the ticket is that of a client of a sound world
pub returns-clause-own : goal.returns-clause-own
returns-clause-own g c =
    let w = c.args.self.now in
    let sound = subst IsSound c.self.view_is c.self.invariant.sound in
    subst (λ o. IfSome o (λ t. t.client ≡ c.args.client)) (sym (returns-clause-ticket g c)) (own_ticket w c.args.client sound)
