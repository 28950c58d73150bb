-- What is ready from a number on: the first, and the rest. What holds of each, and of one more behind them.
use Rattle.std.proofs.Common.{◌≡◌, ℕ, ◌+◌, ◌<◌, List, [], ◌∷◌, ◌++◌, length, get_or, map, zero, suc, sym, ap, ◌∙◌, subst, arith, add-zero}
use Rattle.std.specs.List.{All, remove}
use Rattle.std.proofs.lemmas.List.{length-append}
use Rattle.std.proofs.lemmas.List.Elements.{All-append}
use Rattle.lock_messages.specs.declared.ids.Actor.{Actor}
use Rattle.lock_model.specs.Ballots.{Ballot}
use Rattle.event_recorders.specs.OwnLogs.{OwnLog, IsDownAtRest}
use Rattle.own_threads.specs.Tasks.{IsNodeTask, IsClientTask, AreNodesReady, AreClientsReady}

pub first_node : {Y : Type 0} (h : Y → OwnLog × List (List ℕ)) (n : ℕ) (ys : List Y) (y : Y) → AreNodesReady n (map h ys) → 0 < length ys → y ≡ get_or ys 0 y → IsNodeTask n (h y).0 (h y).1
first_node h n [] y ready some at = absurd (omega arith)
first_node h n (b ∷ ys) y ready some at = subst (λ z. IsNodeTask n (h z).0 (h z).1) (sym at) ready.0

pub rest_nodes : {Y : Type 0} (h : Y → OwnLog × List (List ℕ)) (n : ℕ) (ys ys' : List Y) → AreNodesReady n (map h ys) → 0 < length ys → ys' ≡ remove ys 0 → AreNodesReady (n + 1) (map h ys')
rest_nodes h n [] ys' ready some at = absurd (omega arith)
rest_nodes h n (b ∷ ys) ys' ready some at = subst (λ zs. AreNodesReady (n + 1) (map h zs)) (sym at) ready.1

pub first_client : {Y : Type 0} (h : Y → OwnLog × List (List ℕ)) (b : List Ballot) (n : ℕ) (ys : List Y) (y : Y) → AreClientsReady b n (map h ys) → 0 < length ys → y ≡ get_or ys 0 y → IsClientTask n b (h y).0 (h y).1
first_client h b n [] y ready some at = absurd (omega arith)
first_client h b n (z ∷ ys) y ready some at = subst (λ z. IsClientTask n b (h z).0 (h z).1) (sym at) ready.0

pub rest_clients : {Y : Type 0} (h : Y → OwnLog × List (List ℕ)) (b : List Ballot) (n : ℕ) (ys ys' : List Y) → AreClientsReady b n (map h ys) → 0 < length ys → ys' ≡ remove ys 0 → AreClientsReady b (n + 1) (map h ys')
rest_clients h b n [] ys' ready some at = absurd (omega arith)
rest_clients h b n (z ∷ ys) ys' ready some at = subst (λ zs. AreClientsReady b (n + 1) (map h zs)) (sym at) ready.1

-- one taken away from the front, and the place after
pub one_fewer : {X : Type 0} (xs xs' : List X) (place count : ℕ) → xs' ≡ remove xs 0 → 0 < length xs → place + length xs ≡ count → place + 1 + length xs' ≡ count
one_fewer [] xs' place count at some all = absurd (omega arith)
one_fewer (x ∷ xs) xs' place count at some all = let same : length xs' ≡ length xs = ap length at in omega (arith, same, all)

all_one : {X : Type 0} (P : X → Type 0) (x : X) → P x → All P (x ∷ [])
all_one P x here zero d within = here
all_one P x here (suc k) d within = absurd (omega arith)

pub all_and_one : {X : Type 0} (P : X → Type 0) (xs ys : List X) (x : X) → All P xs → P x → ys ≡ xs ++ x ∷ [] → All P ys
all_and_one P xs ys x each here at = subst (All P) (sym at) (All-append P xs (x ∷ []) each (all_one P x here))

-- one more behind those that are ready
pub more_nodes : {Y : Type 0} (h : Y → OwnLog × List (List ℕ)) (n : ℕ) (ys ys' : List Y) (y : Y) → AreNodesReady n (map h ys) → IsNodeTask (n + length ys) (h y).0 (h y).1 → ys' ≡ ys ++ y ∷ [] → AreNodesReady n (map h ys')
more_nodes h n ys ys' y ready task at = subst (λ zs. AreNodesReady n (map h zs)) (sym at) (go n ys ready task)
  where
    go : (n : ℕ) (ys : List _) → AreNodesReady n (map h ys) → IsNodeTask (n + length ys) (h y).0 (h y).1 → AreNodesReady n (map h (ys ++ y ∷ []))
    go n [] ready task = (subst (λ k. IsNodeTask k (h y).0 (h y).1) (add-zero n) task, tt)
    go n (z ∷ zs) ready task = let same : n + length (z ∷ zs) ≡ n + 1 + length zs = omega arith in (ready.0, go (n + 1) zs ready.1 (subst (λ k. IsNodeTask k (h y).0 (h y).1) same task))

pub more_clients : {Y : Type 0} (h : Y → OwnLog × List (List ℕ)) (b : List Ballot) (n : ℕ) (ys ys' : List Y) (y : Y) → AreClientsReady b n (map h ys) → IsClientTask (n + length ys) b (h y).0 (h y).1 → ys' ≡ ys ++ y ∷ [] →
    AreClientsReady b n (map h ys')
more_clients h b n ys ys' y ready task at = subst (λ zs. AreClientsReady b n (map h zs)) (sym at) (go n ys ready task)
  where
    go : (n : ℕ) (ys : List _) → AreClientsReady b n (map h ys) → IsClientTask (n + length ys) b (h y).0 (h y).1 → AreClientsReady b n (map h (ys ++ y ∷ []))
    go n [] ready task = (subst (λ k. IsClientTask k b (h y).0 (h y).1) (add-zero n) task, tt)
    go n (z ∷ zs) ready task = let same : n + length (z ∷ zs) ≡ n + 1 + length zs = omega arith in (ready.0, go (n + 1) zs ready.1 (subst (λ k. IsClientTask k b (h y).0 (h y).1) same task))

-- one more behind so many
pub one_longer : {X : Type 0} (xs ys : List X) (x : X) (count : ℕ) → ys ≡ xs ++ x ∷ [] → length xs ≡ count → length ys ≡ count + 1
one_longer xs ys x count at long = ap length at ∙ length-append xs (x ∷ []) ∙ ap (λ n. n + 1) long

-- of those that are left, the first may run, and so may the rest
pub ready_first : {Y : Type 0} (h : Y → OwnLog × List (List ℕ)) (n : ℕ) (ys rest : List Y) (y : Y) → ys ≡ y ∷ rest → AreNodesReady n (map h ys) → IsNodeTask n (h y).0 (h y).1
ready_first h n ys rest y at ready = (subst (λ zs. AreNodesReady n (map h zs)) at ready).0

pub ready_rest : {Y : Type 0} (h : Y → OwnLog × List (List ℕ)) (n m : ℕ) (ys rest : List Y) (y : Y) → ys ≡ y ∷ rest → n + 1 ≡ m → AreNodesReady n (map h ys) → AreNodesReady m (map h rest)
ready_rest h n m ys rest y at next ready = subst (λ k. AreNodesReady k (map h rest)) next ((subst (λ zs. AreNodesReady n (map h zs)) at ready).1)

-- an actor that may run is down with nothing tried
pub down_of : (n : ℕ) (l : OwnLog) (strings : List (List ℕ)) → IsNodeTask n l strings → IsDownAtRest l.actor l.opening
down_of n l strings task = subst (λ (who : Actor). IsDownAtRest who l.opening) (sym task.ready.unused.actor) task.ready.unused.down
