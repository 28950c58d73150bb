-- A service that goes on from what its records hold may run.
use Rattle.std.proofs.Common.{◌≡◌, ℕ, List, [], ◌∷◌, ◌++◌, length, map, sym, ap, subst, ◌∙◌}
use Rattle.std.specs.Prelude.{Vec}
use Rattle.std.specs.Global.{Global}
use Rattle.std.proofs.lemmas.List.{length-map}
use Rattle.lock_model.specs.Ballots.{Ballot}
use Rattle.world_model.specs.declared.exact.ExactWorld.{ExactWorld}
use Rattle.world_machine.specs.Opened.{IsResumed}
use Rattle.node_threads.specs.Conditions.{MayRun}
use Rattle.node_threads.specs.Laws.{ResumedMayRun}
use Rattle.node_threads.proofs.Returned.{image_of_image}

both : {A : Type 0} (xs xs' ys ys' : List A) → xs ≡ xs' → ys ≡ ys' → xs ++ ys ≡ xs' ++ ys'
both xs xs' ys ys' one other = ap (λ zs. zs ++ ys) one ∙ ap (λ zs. xs' ++ zs) other

pub may_go_on : ResumedMayRun → (b : List Ballot) (nodes clients : List (Vec ℕ Global)) (w : ExactWorld) (pairs : ℕ) (xs ys : List (List (List ℕ))) → IsResumed b (map (λ v. v.items) nodes) (map (λ v. v.items) clients) w
    → length nodes ≡ 1 → pairs ≡ 1 → xs ≡ map (λ v. v.items ∷ []) nodes → ys ≡ map (λ v. v.items ∷ []) clients → MayRun w b pairs (xs ++ ys)
may_go_on law b nodes clients w pairs xs ys is one count of_nodes of_clients =
    let found = both xs _ ys _ (of_nodes ∙ sym (image_of_image (λ (v : Vec ℕ Global). v.items) (λ (bytes : List ℕ). bytes ∷ []) nodes)) (of_clients ∙ sym (image_of_image (λ (v : Vec ℕ Global). v.items) (λ (bytes : List ℕ). bytes ∷ []) clients)) in
    subst (λ n. MayRun w b n (xs ++ ys)) (length-map nodes (λ v. v.items) ∙ one ∙ sym count)
    (subst (λ fs. MayRun w b (length (map (λ (v : Vec ℕ Global). v.items) nodes)) fs) (sym found) (law b (map (λ v. v.items) nodes) (map (λ v. v.items) clients) w is))
