-- Actors put in order one after the other, and the records from which a world is opened.
use Rattle.std.proofs.Common.{◌≡◌, ℕ, ◌+◌, ◌-◌, ◌<◌, ◌≤◌, ◌⊎◌, List, [], ◌∷◌, ◌++◌, length, get_or, map, replicate, take, Some, sym, ◌∙◌, ap, subst, inl, inr, append_assoc, arith}
use Rattle.std.specs.Prelude.{slice_get}
use Rattle.std.specs.List.{AllByRecursion, remove}
use Rattle.std.proofs.lemmas.List.{length-map, map-append, length-replicate, take_more}
use Rattle.lock_messages.specs.declared.ids.TheConstants.{MAX_NODES, MAX_CLIENTS}
use Rattle.lock_messages.specs.declared.messages.Message.{Message}
use Rattle.lock_model.specs.declared.problems.Problem.{Problem}
use Rattle.lock_model.specs.Ballots.{Ballot, node_count}
use Rattle.stable_record.specs.declared.node_records.NodeRecord.{NodeRecord}
use Rattle.stable_record.specs.Records.{IsNodeRecord}
use Rattle.world_actors.specs.Acting.{ActingNode, ActingClient}
use Rattle.world_model.specs.declared.exact.ExactStation.{ExactStation}
use Rattle.world_model.specs.ExactWorlds.{numbered}
use Rattle.world_model.specs.Forgetting.{IsSound}
use Rattle.world_model.specs.Openings.{down_node, down_client, empty_station, resumed, IsResumable}
use Rattle.world_opening.specs.Openings.{AreRecords, AreAttempts, station_in, stations_in}
use Rattle.world_opening.proofs.JudgingFacts.{all-numbered}
use Rattle.world_machine.specs.Machines.{node_part, client_part, world_view, AreNodes, AreClients, IsWorld}
use Rattle.world_machine.specs.Opened.{CanOpen}
use Rattle.world_model.specs.Numbered.{past-zero, numbered-one, get-last}

-- lists with one more

-- what holds of each under its number does so of one more
each-more : {A : Type 0} (P : ℕ → A → Type 0) (xs : List A) (y : A) → ((n : ℕ) (x : A) → numbered xs n ≡ Some x → P n x) → P (length xs + 1) y → (n : ℕ) (x : A) → numbered (xs ++ y ∷ []) n ≡ Some x → P n x
each-more {A} P xs y old new n x h = go (get-last xs y (n - 1) x (sym (past-zero (xs ++ y ∷ []) n one) ∙ h))
  where
    one : 1 ≤ n
    one = (numbered-one (xs ++ y ∷ []) n x h).0

    go : (slice_get xs (n - 1) ≡ Some x) ⊎ ((n - 1 ≡ length xs) × (y ≡ x)) → P n x
    go (inl e) = old n x (past-zero xs n one ∙ e)
    go (inr e) = subst (P n) e.1 (subst (λ m. P m y) (let q : length xs + 1 ≡ n = omega (arith, one, e.0) in q) new)

pub nodes-more : (vs : List ActingNode) (v : ActingNode) → AreNodes vs → v.number ≡ length vs + 1 → AreNodes (vs ++ v ∷ [])
nodes-more vs v old is = each-more (λ n u. u.number ≡ n) vs v old is

pub clients-more : (b : List Ballot) (ks : List ActingClient) (k : ActingClient) → AreClients b ks → k.number ≡ length ks + 1 → k.ballots ≡ b → AreClients b (ks ++ k ∷ [])
clients-more b ks k old is same = each-more (λ c u. (u.number ≡ c) × (u.ballots ≡ b)) ks k old (is, same)

-- one more of what was made of a list, one after the other
pub map-more : {A B C : Type 0} (f : A → C) (g : B → C) (xs : List A) (ys : List B) (i : ℕ) (x : A) (d : B) → map f xs ≡ map g (take i ys) → i < length ys → f x ≡ g (get_or ys i d) → map f (xs ++ x ∷ []) ≡ map g (take (i + 1) ys)
map-more f g xs ys i x d h within is =
    map-append f xs (x ∷ []) ∙ ap (λ l. l ++ f x ∷ []) h ∙ ap (λ z. map g (take i ys) ++ z ∷ []) is
    ∙ sym (map-append g (take i ys) (get_or ys i d ∷ [])) ∙ ap (map g) (sym (take_more ys i d within))

-- the first of a list, and the rest

pub rest-good : (rs : List NodeRecord) → AllByRecursion IsNodeRecord rs → AllByRecursion IsNodeRecord (remove rs 0)
rest-good [] good = tt
rest-good (x ∷ rs) good = good.1

pub rest-length : {A : Type 0} (xs : List A) → 0 < length xs → length (remove xs 0) + 1 ≡ length xs
rest-length [] some = absurd (omega arith)
rest-length (x ∷ xs) some = omega arith

-- two lists that are equally long stay so without their first
pub rest-same : {A B : Type 0} (xs : List A) (ys : List B) (us : List A) (vs : List B) → length xs ≡ length ys → 0 < length ys → us ≡ remove xs 0 → vs ≡ remove ys 0 → length us ≡ length vs
rest-same xs ys us vs same some left right =
    let a = rest-length xs (omega (arith, same, some)) in
    let b = rest-length ys some in
    ap length left ∙ (let e : length (remove xs 0) ≡ length (remove ys 0) = omega (arith, a, b, same) in e) ∙ ap length (sym right)

-- the first of the records goes over to the nodes
pub parts-more : (vs : List ActingNode) (n : ℕ) (rs : List NodeRecord) (r : NodeRecord) → 0 < length rs → r ≡ get_or rs 0 r →
    map node_part (vs ++ record { number = n; part = down_node (station_in r) } ∷ []) ++ map down_node (stations_in (remove rs 0)) ≡ map node_part vs ++ map down_node (stations_in rs)
parts-more vs n [] r some at = absurd (omega arith)
parts-more vs n (x ∷ rs) r some at =
    let v : ActingNode = record { number = n; part = down_node (station_in r) } in
    ap (λ l. l ++ map down_node (stations_in rs)) (map-append node_part vs (v ∷ []))
    ∙ append_assoc (map node_part vs) (v.part ∷ []) (map down_node (stations_in rs))
    ∙ ap (λ s. map node_part vs ++ down_node (station_in s) ∷ map down_node (stations_in rs)) at

-- what records spell

kept-good : (found : List (List ℕ)) (records : List NodeRecord) → AreRecords found records → AllByRecursion IsNodeRecord records
kept-good found records are = all-numbered IsNodeRecord records (λ n r e. (are.each n r e).reads.good)

pub records-many : {V : Type 0} (h : V → List ℕ) (b : List Ballot) (nodes : List V) (records : List NodeRecord) → length nodes ≡ node_count b → AreRecords (map h nodes) records → length records ≡ node_count b
records-many h b nodes records long are = are.count_is ∙ length-map nodes h ∙ long

-- a world can be opened from what was judged
pub can-open : {V : Type 0} (h : V → List ℕ) (b : List Ballot) (nodes clients : List V) (records : List NodeRecord) (attempts : List ℕ) →
    length nodes ≡ node_count b → node_count b ≤ MAX_NODES → length clients ≤ MAX_CLIENTS → AreRecords (map h nodes) records → AreAttempts (map h clients) attempts →
    IsResumable b (stations_in records) attempts → CanOpen b records attempts
can-open h b nodes clients records attempts nodes_long few_nodes few_clients are made fits = record {
  good = kept-good (map h nodes) records are;
  few_nodes = subst (λ n. n ≤ MAX_NODES) (sym (records-many h b nodes records nodes_long are)) few_nodes;
  few_clients = subst (λ n. n ≤ MAX_CLIENTS) (sym (made.count_is ∙ length-map clients h)) few_clients;
  resumable = fits;
}

pub empty-many : (rs : List NodeRecord) (n : ℕ) (p : Problem) → stations_in rs ≡ map empty_station (replicate n p) → length rs ≡ n
empty-many rs n p h = sym (length-map rs station_in) ∙ ap length h ∙ length-map (replicate n p) empty_station ∙ length-replicate n p

-- and where nothing is kept
pub can-open-empty : (b : List Ballot) (p : Problem) (n : ℕ) (records : List NodeRecord) (attempts : List ℕ) → node_count b ≤ MAX_NODES → n ≤ MAX_CLIENTS →
    AllByRecursion IsNodeRecord records → stations_in records ≡ map empty_station (replicate (node_count b) p) → attempts ≡ replicate n 0 →
    IsResumable b (map empty_station (replicate (node_count b) p)) (replicate n 0) → CanOpen b records attempts
can-open-empty b p n records attempts few_nodes few_clients good made zeros fits = record {
  good = good;
  few_nodes = subst (λ k. k ≤ MAX_NODES) (sym (empty-many records (node_count b) p made)) few_nodes;
  few_clients = subst (λ k. k ≤ MAX_CLIENTS) (sym (ap length zeros ∙ length-replicate n 0)) few_clients;
  resumable = subst (λ ss. IsResumable b ss attempts) (sym made) (subst (IsResumable b (map empty_station (replicate (node_count b) p))) (sym zeros) fits);
}

-- the world that is opened

pub opened-view : (b : List Ballot) (vs : List ActingNode) (ks : List ActingClient) (sent : List Message) (stations : List ExactStation) (attempts : List ℕ) →
    map node_part vs ≡ map down_node stations → map client_part ks ≡ map down_client attempts → sent ≡ [] → world_view b vs ks sent ≡ resumed b stations attempts
opened-view b vs ks sent stations attempts nodes clients none = λ i. record { ballots = b; nodes = nodes i; clients = clients i; sent = none i }

pub opened-world : (b : List Ballot) (vs : List ActingNode) (ks : List ActingClient) (sent : List Message) (stations : List ExactStation) (attempts : List ℕ) →
    map node_part vs ≡ map down_node stations → map client_part ks ≡ map down_client attempts → sent ≡ [] → AreNodes vs → AreClients b ks → IsSound (resumed b stations attempts) → IsWorld b vs ks sent
opened-world b vs ks sent stations attempts nodes clients none in_order with_ballot sound = record {
  order = record { nodes = in_order; clients = with_ballot; room = omega (arith, ap length none) };
  sound = subst IsSound (sym (opened-view b vs ks sent stations attempts nodes clients none)) sound;
}
