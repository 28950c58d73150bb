use Rattle.std.proofs.Common.{◌≡◌, ◌∙◌, ℕ, List, [], ◌∷◌, replicate, refl, ap, arith}
use denote.Param.Object.{read_made}
use Rattle.run_service.specs.Empty.{empty_node}
use Rattle.run_service.proofs.ListFacts.{pushed}
use Rattle.run_service.proofs.sessions.run_in_memory.OwnLists.{own-2, at-2-1}
use Rattle.run_service.proofs.sessions.run_in_memory.Goals as goal

pub loop-preserved : goal.loop-preserved
loop-preserved g c =
    let box = c.into_dyn_box in
    pushed _ _ _ _ (empty_node c.args.settings.now.problem) _ c.loop.invariant c.in-Ok-add_record.ensures
    (read_made own-2 (own-2.entry at-2-1) at-2-1 refl (List (List ℕ)) (λ j w. j.1.finds w) box.result.vtable box.result.value c.in-Ok-new.record.value box.ensures.1
    ∙ ap (λ (m : List ℕ). m ∷ []) (c.in-Ok-new.ensures.ok ∙ c.in-Ok.ensures))

pub run_sessions-requires-clause-nodes : goal.run_sessions-requires-clause-nodes
run_sessions-requires-clause-nodes g c κs within =
    let whole : c.loop.counter ≡ c.nodes-end.result = omega (arith, c.loop-test.false, c.loop.auto.counter-end) in
    c.loop.invariant ∙ ap (λ n. replicate n (empty_node c.args.settings.now.problem)) (whole ∙ c.nodes-end.ensures.nodes)
