-- What is ready from a place on: the first, and the rest.
use Rattle.std.proofs.Common.{◌≡◌, ℕ, ◌+◌, ◌<◌, List, [], ◌∷◌, ◌++◌, length, take, drop, get_or, map, slice_get, zero, suc, refl, sym, ◌∙◌, ap, subst, arith}
use Rattle.std.specs.List.{All, remove}
use Rattle.std.proofs.lemmas.List.{append-nil, drop_all, take_all}
use Rattle.std.proofs.lemmas.List.Elements.{All-append}
use Rattle.world_model.specs.declared.exact.ExactWorld.{ExactWorld}
use Rattle.node_threads.specs.Actors.{IsNodeReady, IsClientReady, AreNodesReady, AreClientsReady}

pub first_node : {Y : Type 0} (h : Y → List (List ℕ)) (w : ExactWorld) (place : ℕ) (ys : List Y) (y : Y) → AreNodesReady place w (map h ys) → 0 < length ys → y ≡ get_or ys 0 y →
    IsNodeReady w (place + 1) (h y)
first_node h w place [] y ready some at_y = absurd (omega arith)
first_node h w place (b ∷ ys) y ready some at_y =
    let n : 0 + place + 1 ≡ place + 1 = omega arith in
    let here : IsNodeReady w (place + 1) (h b) = subst (λ k. IsNodeReady w k (h b)) n (ready 0 (h b) refl) in
    subst (λ z. IsNodeReady w (place + 1) (h z)) (sym at_y) here

pub rest_nodes : {Y : Type 0} (h : Y → List (List ℕ)) (w : ExactWorld) (place : ℕ) (ys ys' : List Y) → AreNodesReady place w (map h ys) → 0 < length ys → ys' ≡ remove ys 0 →
    AreNodesReady (place + 1) w (map h ys')
rest_nodes h w place [] ys' ready some at_ys = absurd (omega arith)
rest_nodes h w place (b ∷ ys) ys' ready some at_ys = λ i s at_s.
    let n : suc i + place + 1 ≡ i + (place + 1) + 1 = omega arith in
    subst (λ k. IsNodeReady w k s) n (ready (suc i) s (ap (λ l. slice_get (map h l) i) (sym at_ys) ∙ at_s))

pub first_client : {Y : Type 0} (h : Y → List (List ℕ)) (w : ExactWorld) (place : ℕ) (ys : List Y) (y : Y) → AreClientsReady place w (map h ys) → 0 < length ys → y ≡ get_or ys 0 y →
    IsClientReady w (place + 1) (h y)
first_client h w place [] y ready some at_y = absurd (omega arith)
first_client h w place (b ∷ ys) y ready some at_y =
    let n : 0 + place + 1 ≡ place + 1 = omega arith in
    let here : IsClientReady w (place + 1) (h b) = subst (λ k. IsClientReady w k (h b)) n (ready 0 (h b) refl) in
    subst (λ z. IsClientReady w (place + 1) (h z)) (sym at_y) here

pub rest_clients : {Y : Type 0} (h : Y → List (List ℕ)) (w : ExactWorld) (place : ℕ) (ys ys' : List Y) → AreClientsReady place w (map h ys) → 0 < length ys → ys' ≡ remove ys 0 →
    AreClientsReady (place + 1) w (map h ys')
rest_clients h w place [] ys' ready some at_ys = absurd (omega arith)
rest_clients h w place (b ∷ ys) ys' ready some at_ys = λ i s at_s.
    let n : suc i + place + 1 ≡ i + (place + 1) + 1 = omega arith in
    subst (λ k. IsClientReady w k s) n (ready (suc i) s (ap (λ l. slice_get (map h l) i) (sym at_ys) ∙ at_s))

-- one taken away from the front, and the place after
pub one_fewer : {X : Type 0} (xs xs' : List X) (place count : ℕ) → xs' ≡ remove xs 0 → 0 < length xs → place + length xs ≡ count → place + 1 + length xs' ≡ count
one_fewer [] xs' place count at some all = absurd (omega arith)
one_fewer (x ∷ xs) xs' place count at some all = let same : length xs' ≡ length xs = ap length at in omega (arith, same, all)

-- what holds of each, and of one more behind them
all_one : {X : Type 0} (P : X → Type 0) (x : X) → P x → All P (x ∷ [])
all_one P x here zero d within = here
all_one P x here (suc k) d within = absurd (omega arith)

pub all_and_one : {X : Type 0} (P : X → Type 0) (xs ys : List X) (x : X) → All P xs → P x → ys ≡ xs ++ x ∷ [] → All P ys
all_and_one P xs ys x each here at = subst (All P) (sym at) (All-append P xs (x ∷ []) each (all_one P x here))

-- what was borrowed whole is written back whole
pub written_back : {X : Type 0} (new old : List X) (n : ℕ) → length new ≡ length old → n ≡ length old → take n (new ++ drop (length new) old) ≡ new
written_back new old n long all =
    ap (λ l. take n (new ++ l)) (drop_all (length new) old (omega (arith, long))) ∙ ap (take n) (append-nil new) ∙ take_all n new (omega (arith, long, all))
