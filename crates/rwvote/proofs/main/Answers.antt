use Rattle.std.proofs.Common.{◌≡◌, ◌∙◌, ℕ, List, [], ◌∷◌, replicate, map, refl, sym, ap, subst, arith}
use denote.Param.Object.{read_made}
use Rattle.lock_messages.specs.declared.ids.TheConstants.{MAX_CLIENTS}
use Rattle.lock_model.specs.declared.problems.Problem.TheVariants.{First, Second}
use Rattle.run_service.specs.Empty.{empty_node, empty_client}
use Rattle.run_service.proofs.ListFacts.{pushed}
use Rattle.rwvote.proofs.main.OwnLists.{own-1, own-2, at-2-1}
use Rattle.rwvote.proofs.main.Goals as goal

pub add_pair-requires-clause-first : goal.add_pair-requires-clause-first
add_pair-requires-clause-first g c =
    let box = c.into_dyn_box in
    subst (λ v. (x : (own-1.entry v).0.Denot) → (own-1.entry v).1.problem_of x ≡ First) (sym box.ensures.0) (λ x. refl) box.result.value

pub add_pair-requires-clause-second : goal.add_pair-requires-clause-second
add_pair-requires-clause-second g c =
    let box = c.into_dyn_box-in-loop in
    subst (λ v. (x : (own-1.entry v).0.Denot) → (own-1.entry v).1.problem_of x ≡ Second) (sym box.ensures.0) (λ x. refl) box.result.value

pub add_pair-requires-in-loop-2-clause-first : goal.add_pair-requires-in-loop-2-clause-first
add_pair-requires-in-loop-2-clause-first g c =
    let box = c.into_dyn_box-in-loop-2 in
    subst (λ v. (x : (own-1.entry v).0.Denot) → (own-1.entry v).1.problem_of x ≡ First) (sym box.ensures.0) (λ x. refl) box.result.value

pub add_pair-requires-in-loop-2-clause-second : goal.add_pair-requires-in-loop-2-clause-second
add_pair-requires-in-loop-2-clause-second g c =
    let box = c.into_dyn_box-in-loop-2-2 in
    subst (λ v. (x : (own-1.entry v).0.Denot) → (own-1.entry v).1.problem_of x ≡ Second) (sym box.ensures.0) (λ x. refl) box.result.value

pub loop-3-preserved : goal.loop-3-preserved
loop-3-preserved g c =
    let box = c.into_dyn_box-in-loop-3 in
    let other = c.into_dyn_box-in-loop-3-2 in
    record {
      first = pushed _ _ _ _ (empty_node First) _ c.loop-3.invariant.first c.in-Ok-add_nodes.ensures.first
          (read_made own-2 (own-2.entry at-2-1) at-2-1 refl (List (List ℕ)) (λ j w. j.1.finds w) box.result.vtable box.result.value c.in-Ok-new-4.first.value box.ensures.1
          ∙ ap (λ (m : List ℕ). m ∷ []) (c.in-Ok-new-4.ensures.ok ∙ c.in-Ok-empty_node_record.ensures));
      second = pushed _ _ _ _ (empty_node Second) _ c.loop-3.invariant.second c.in-Ok-add_nodes.ensures.second
          (read_made own-2 (own-2.entry at-2-1) at-2-1 refl (List (List ℕ)) (λ j w. j.1.finds w) other.result.vtable other.result.value c.in-Ok-new-5.second.value other.ensures.1
          ∙ ap (λ (m : List ℕ). m ∷ []) (c.in-Ok-new-5.ensures.ok ∙ c.in-Ok-empty_node_record-2.ensures));
      clients = ap (map (λ b. (own-2.entry b.vtable).1.finds b.value)) c.in-Ok-add_nodes.ensures.clients ∙ c.loop-3.invariant.clients;
    }

pub loop-4-preserved : goal.loop-4-preserved
loop-4-preserved g c =
    let box = c.into_dyn_box-in-loop-4 in
    record {
      first = ap (map (λ b. (own-2.entry b.vtable).1.finds b.value)) c.in-Ok-add_client.ensures.first ∙ c.loop-4.invariant.first;
      second = ap (map (λ b. (own-2.entry b.vtable).1.finds b.value)) c.in-Ok-add_client.ensures.second ∙ c.loop-4.invariant.second;
      clients = pushed _ _ _ _ empty_client _ c.loop-4.invariant.clients c.in-Ok-add_client.ensures.clients
          (read_made own-2 (own-2.entry at-2-1) at-2-1 refl (List (List ℕ)) (λ j w. j.1.finds w) box.result.vtable box.result.value c.in-Ok-new-6.client.value box.ensures.1
          ∙ ap (λ (m : List ℕ). m ∷ []) (c.in-Ok-new-6.ensures.ok ∙ c.in-Ok-empty_client_record.ensures));
    }

pub run-ended-requires-clause-records_clients : goal.run-ended-requires-clause-records_clients
run-ended-requires-clause-records_clients g c κs =
    let whole : c.loop-4.counter ≡ MAX_CLIENTS = omega (arith, c.loop-4-test.false, c.loop-4.auto.counter-end) in
    c.loop-4.invariant.clients ∙ ap (λ n. replicate n empty_client) whole
