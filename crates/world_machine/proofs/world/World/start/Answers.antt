use Rattle.std.proofs.Common.{◌∙◌, sym, ap, map, replicate, arith}
use Rattle.std.proofs.lemmas.List.{length-replicate}
use Rattle.world_model.specs.Openings.{empty_station}
use Rattle.world_machine.proofs.OpeningFacts.{can-open-empty, empty-many}
use Rattle.world_machine.proofs.world.World.start.Goals as goal

pub opened-requires-clause-kept : goal.opened-requires-clause-kept
opened-requires-clause-kept g c =
    let b = c.args.ballots in
    let n = c.args.clients in
    let p = c.args.problem in
    let nodes = c.nodes-nodes.ensures in
    let nothing = c.in-Ok.ensures in
    can-open-empty b p n c.in-Ok.kept.records.items c.in-Ok.kept.attempts.items (omega (arith, nodes.nodes, nodes.few_nodes)) c.requires.few_clients
    nothing.good (nothing.stations ∙ ap (λ k. map empty_station (replicate k p)) nodes.nodes) nothing.attempts (c.openings_are_lawful.ensures.empty b _ n nodes.cross (length-replicate _ p))

pub opened-requires-clause-pairs : goal.opened-requires-clause-pairs
opened-requires-clause-pairs g c = c.requires.pairs ∙ sym (c.nodes-nodes.ensures.nodes) ∙ sym (empty-many c.in-Ok.kept.records.items c.nodes-nodes.result c.args.problem c.in-Ok.ensures.stations)
