use Rattle.std.proofs.Common.{◌∙◌, sym, arith}
use Rattle.world_machine.proofs.OpeningFacts.{can-open, records-many}
use Rattle.world_machine.proofs.world.World.resume.Goals as goal

pub opened-requires-clause-kept : goal.opened-requires-clause-kept
opened-requires-clause-kept g c =
    let b = c.args.ballots in
    let nodes = c.nodes-nodes.ensures in
    let judged = c.in-Ok.ensures in
    can-open (λ v. v.items) b c.args.node_records.now c.args.client_records.now c.in-Ok.kept.records.items c.in-Ok.kept.attempts.items
    c.requires.nodes (omega (arith, nodes.nodes, nodes.few_nodes)) (omega (arith, c.requires.clients, c.requires.few_clients))
    judged.records judged.attempts (judged.resumable b nodes.cross c.requires.nodes)

pub opened-requires-clause-pairs : goal.opened-requires-clause-pairs
opened-requires-clause-pairs g c = c.requires.pairs ∙ sym (records-many (λ v. v.items) c.args.ballots c.args.node_records.now c.in-Ok.kept.records.items c.requires.nodes c.in-Ok.ensures.records)
