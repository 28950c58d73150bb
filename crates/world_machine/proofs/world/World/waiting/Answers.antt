use Rattle.std.proofs.Common.{◌≡◌, Some, subst}
use Rattle.std.proofs.lemmas.Result.{IfOk-weaker}
use Rattle.lock_model.specs.Stations.{Station}
use Rattle.world_model.specs.declared.exact.ExactNode.{ExactNode}
use Rattle.world_model.specs.ExactWorlds.{numbered}
use Rattle.world_model.specs.Forgetting.{forget, IsSound}
use Rattle.world_model.specs.Views.{live_tickets, waits, waiting}
use Rattle.world_machine.specs.Listing.{AreWaiting}
use Rattle.world_machine.proofs.ListingFacts.{nodes-of, tells-such, listed-such, readers_caused}
use Rattle.world_machine.proofs.world.World.waiting.Goals as goal

pub returns-clause-waiting : goal.returns-clause-waiting
returns-clause-waiting g c =
    let s = c.self.inside in
    let w = c.args.self.now in
    c.tickets_at.ensures w (nodes-of w s.ballots s.nodes.items s.clients.items s.sent.items c.deref.result.now c.self.view_is c.deref.ensures.value)

-- the station that the node has kept is that of a sound world
pub returns-clause-set : goal.returns-clause-set
returns-clause-set g c =
    let w = c.args.self.now in
    let n = c.args.node in
    let x = c.args.resource.now in
    let sound = subst IsSound c.self.view_is c.self.invariant.sound in
    let each = λ (v : ExactNode) (is : numbered w.nodes n ≡ Some v). c.lists_are_the_sets.ensures.waiting v.kept (sound.each_node n v is).kept x in
    tells-such (λ v. v.items) (waiting n x w) (AreWaiting ((forget w).nodes n).kept x) c.tickets_at.result
    (λ l. listed-such (λ v. live_tickets (waits x) v.kept.entries) (λ (st : Station). AreWaiting st x) w n l each) (returns-clause-waiting g c)

pub returns-clause-caused : goal.returns-clause-caused
returns-clause-caused g c =
    let w = c.args.self.now in
    let n = c.args.node in
    let x = c.args.resource.now in
    let sound = subst IsSound c.self.view_is c.self.invariant.sound in
    IfOk-weaker c.tickets_at.result (λ v. AreWaiting ((forget w).nodes n).kept x v.items) _
    (λ v. readers_caused (forget w) n x v.items (c.lists_are_the_sets.ensures.exclusive w sound)) (returns-clause-set g c)
