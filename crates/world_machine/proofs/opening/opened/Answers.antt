use Rattle.std.proofs.Common.{ap, ◌∙◌, map}
use Rattle.world_model.specs.Openings.{down_client}
use Rattle.world_opening.specs.Openings.{stations_in}
use Rattle.world_machine.proofs.OpeningFacts.{opened-world}
use Rattle.world_machine.proofs.opening.opened.Goals as goal

pub invariant_of-result : goal.invariant_of-result
invariant_of-result g c =
    let b = c.args.ballots in
    let stations = stations_in c.args.kept.records.items in
    let attempts = c.args.kept.attempts.items in
    opened-world b c.in-Ok-nodes_of.nodes.items c.in-Ok.clients.items c.new.result.items stations attempts c.in-Ok-nodes_of.ensures.parts (c.in-Ok.ensures.parts ∙ ap (map down_client) c.deref.ensures.value) c.new.ensures.items c.in-Ok-nodes_of.ensures.order c.in-Ok.ensures.order
    (c.openings_are_lawful.ensures.sound b stations attempts c.requires.kept.resumable)
