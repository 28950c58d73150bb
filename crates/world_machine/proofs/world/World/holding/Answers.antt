use Rattle.std.proofs.Common.{◌≡◌, Some, subst}
use Rattle.lock_model.specs.Stations.{Station}
use Rattle.lock_model.specs.ExactStations.{holds}
use Rattle.world_model.specs.declared.exact.ExactNode.{ExactNode}
use Rattle.world_model.specs.ExactWorlds.{numbered}
use Rattle.world_model.specs.Forgetting.{forget, IsSound}
use Rattle.world_model.specs.Views.{live_tickets, holding}
use Rattle.world_machine.specs.Listing.{AreHolding}
use Rattle.world_machine.proofs.ListingFacts.{nodes-of, tells-such, listed-such}
use Rattle.world_machine.proofs.world.World.holding.Goals as goal

pub returns-clause-holding : goal.returns-clause-holding
returns-clause-holding g c =
    let s = c.self.inside in
    let w = c.args.self.now in
    c.tickets_at.ensures w (nodes-of w s.ballots s.nodes.items s.clients.items s.sent.items c.deref.result.now c.self.view_is c.deref.ensures.value)

-- the station that the node has kept is that of a sound world
pub returns-clause-set : goal.returns-clause-set
returns-clause-set g c =
    let w = c.args.self.now in
    let n = c.args.node in
    let x = c.args.resource.now in
    let sound = subst IsSound c.self.view_is c.self.invariant.sound in
    let each = λ (v : ExactNode) (is : numbered w.nodes n ≡ Some v). c.lists_are_the_sets.ensures.holding v.kept (sound.each_node n v is).kept x in
    tells-such (λ v. v.items) (holding n x w) (AreHolding ((forget w).nodes n).kept x) c.tickets_at.result
    (λ l. listed-such (λ v. live_tickets (holds x) v.kept.entries) (λ (st : Station). AreHolding st x) w n l each) (returns-clause-holding g c)
