use Rattle.std.proofs.Common.{length, sym, ap, ◌∙◌}
use Rattle.std.proofs.lemmas.List.{length-map, length-replicate}
use Rattle.lock_model.specs.Ballots.{node_count}
use Rattle.run_service.specs.Empty.{empty_node}
use Rattle.run_service.proofs.ReadyFacts.{may_run, found_both}
use Rattle.run_service.proofs.sessions.run_sessions.Goals as goal

pub with_sessions-requires-clause-records : goal.with_sessions-requires-clause-records
with_sessions-requires-clause-records g c κs within =
    let s = c.args.settings.now in
    sym (length-map c.args.node_records.items _) ∙ ap length c.requires.nodes ∙ length-replicate (node_count s.ballots) (empty_node s.problem)
    ∙ sym (c.chosen-pairs.ensures.count ∙ c.nodes-nodes.ensures.nodes)

pub with_sessions-requires-clause-may : goal.with_sessions-requires-clause-may
with_sessions-requires-clause-may g c κs within =
    let s = c.args.settings.now in
    may_run s c.in-Ok.world c.nodes-nodes.result _ _ c.in-Ok.ensures c.nodes-nodes.ensures.nodes c.chosen-pairs.ensures.count
    (found_both s c.nodes-nodes.result _ _ c.nodes-nodes.ensures.nodes c.requires.nodes c.requires.clients)
