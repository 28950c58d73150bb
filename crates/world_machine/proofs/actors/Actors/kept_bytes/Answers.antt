use Rattle.std.proofs.Common.{sym, subst}
use Rattle.world_machine.specs.Listing.{kept_bytes, Tells}
use Rattle.world_machine.proofs.ListingFacts.{nodes-of, clients-of}
use Rattle.world_machine.proofs.actors.Actors.kept_bytes.Goals as goal

pub returns-in-Node : goal.returns-in-Node
returns-in-Node g c =
    let s = c.self.inside in
    let w = c.args.self.now in
    subst (λ who. Tells (λ v. v.items) (kept_bytes who w) c.node_bytes_at.result) (sym c.in-Node.is)
    (c.node_bytes_at.ensures w (nodes-of w s.ballots s.nodes.items s.clients.items s.sent.items c.deref.result.now c.self.view_is c.deref.ensures.value))

pub returns-in-Client : goal.returns-in-Client
returns-in-Client g c =
    let s = c.self.inside in
    let w = c.args.self.now in
    subst (λ who. Tells (λ v. v.items) (kept_bytes who w) c.client_bytes_at.result) (sym c.in-Client.is)
    (c.client_bytes_at.ensures w (clients-of w s.ballots s.nodes.items s.clients.items s.sent.items c.deref-in-Client.result.now c.self.view_is c.deref-in-Client.ensures.value))
