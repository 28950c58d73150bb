use Rattle.vote_weights.specs.Sets.{has_node}
use Rattle.world_machine.specs.Going.{IsGentleWay}
use Rattle.world_machine.proofs.LeadFacts.{gentle-copy, too-few, ok-of-all}
use Rattle.world_machine.proofs.world.World.way_in.Goals as goal

pub returns-then-enough-clause-gentle : goal.returns-then-enough-clause-gentle
returns-then-enough-clause-gentle g c = gentle-copy c.args.self.now c.in-Ok-copy.world c.args.want.now c.lead.result (λ v. v.items) c.in-Ok-copy.ensures.same c.lead.ensures.gentle

pub returns-else-enough-clause-gentle : goal.returns-else-enough-clause-gentle
returns-else-enough-clause-gentle g c =
    ok-of-all c.lead_all.result (λ events. IsGentleWay c.args.self.now c.args.want.now events.items)
    (λ events. too-few c.args.self.now c.args.want.now (has_node c.nodes_to_win-chosen.result) c.in-Ok.ballot c.enough.result c.in-Ok.ensures.may.2 c.nodes_to_win-chosen.ensures c.enough.ensures.enough c.if-enough.false events.items)
