-- What may be handed in for a run, actor by actor.
use Rattle.std.proofs.Common.{◌≡◌, ℕ, ◌+◌, ◌-◌, ◌≤◌, cond, List, ◌++◌, length, take, drop, get_or, map, slice_get, Option, Some, None, refl, sym, ◌∙◌, ap, subst, arith}
use Rattle.std.specs.Option.{option_map}
use Rattle.std.proofs.lemmas.Bool.{ne_eqb}
use Rattle.std.proofs.Math.Seq.{take-append_seam, drop-append_seam}
use Rattle.std.proofs.lemmas.List.{take-map, length-map}
use Rattle.std.proofs.lemmas.List.FromFn.{length-range_with_len}
use Rattle.std.specs.List.{drop-map, range_with_len}
use Rattle.std.proofs.Math.ListN.{length-append}
use Rattle.std.proofs.lemmas.Option.{slice_get-map, slice_get_within, get_or_from_slice_get}
use Rattle.lock_messages.specs.declared.ids.TheConstants.{MAX_NODES, MAX_CLIENTS}
use Rattle.lock_model.specs.Ballots.{Ballot}
use Rattle.stable_record.specs.Records.{IsNodeRecord}
use Rattle.world_machine.specs.Keeping.{record_in, KeepsRecords}
use Rattle.world_model.specs.declared.exact.ExactNode.{ExactNode}
use Rattle.world_model.specs.declared.exact.ExactStation.{ExactStation}
use Rattle.world_model.specs.declared.exact.ExactWorld.{ExactWorld}
use Rattle.world_model.specs.ExactWorlds.{numbered}
use Rattle.world_model.specs.Forgetting.{IsSound}
use Rattle.world_model.specs.Openings.{down_node, down_client, resumed}
use Rattle.world_model.specs.Parts.{node_part, client_part}
use Rattle.node_threads.specs.Actors.{IsNodeReady, IsClientReady, AreNodesReady, AreClientsReady}
use Rattle.node_threads.specs.Conditions.{MayRun, finds_station, finds_attempt}

-- what stands at a place, counted from 0, has the next number
at_place : {A : Type 0} (xs : List A) (i : ℕ) (x : A) → slice_get xs i ≡ Some x → numbered xs (i + 0 + 1) ≡ Some x
at_place xs i x at =
    ap (λ b. cond b None (slice_get xs (i + 0 + 1 - 1))) (ne_eqb (i + 0 + 1) 0 (λ z. absurd (omega arith)))
    ∙ ap (slice_get xs) (let e : i + 0 + 1 - 1 ≡ i = omega arith in e) ∙ at

-- what a list of images has there is the image of what the list has
pub image_at : {A B : Type 0} (f : A → B) (xs : List A) (i : ℕ) (x : A) → slice_get xs i ≡ Some x → slice_get (map f xs) i ≡ Some (f x)
image_at f xs i x at = slice_get-map f xs i ∙ ap (option_map f) at

-- one node
node_at : (w : ExactWorld) (votes : List Ballot) (stations : List ExactStation) (attempts : List ℕ) → w ≡ resumed votes stations attempts → KeepsRecords w → (i : ℕ) (s : ExactStation) → slice_get stations i ≡ Some s →
    IsNodeReady w (i + 0 + 1) (finds_station s)
node_at w votes stations attempts is keeps i s at =
    let nodes : w.nodes ≡ map down_node stations = ap (λ (v : ExactWorld). v.nodes) is in
    let there : slice_get w.nodes i ≡ Some (down_node s) = ap (λ xs. slice_get xs i) nodes ∙ image_at down_node stations i s at in
    let good : IsNodeRecord (record_in (get_or w.nodes i (down_node s)).kept) = keeps.nodes i (down_node s) (slice_get_within w.nodes i (down_node s) there) in
    let is_there : get_or w.nodes i (down_node s) ≡ down_node s = get_or_from_slice_get w.nodes i (down_node s) (down_node s) there in record {
      kept = record_in s;
      part = ap node_part (at_place w.nodes i (down_node s) there);
      good = subst (λ (v : ExactNode). IsNodeRecord (record_in v.kept)) is_there good;
      finds = refl;
    }

-- one client
client_at : (w : ExactWorld) (votes : List Ballot) (stations : List ExactStation) (attempts : List ℕ) → w ≡ resumed votes stations attempts → IsSound w → (i : ℕ) (a : ℕ) → slice_get attempts i ≡ Some a →
    IsClientReady w (i + 0 + 1) (finds_attempt a)
client_at w votes stations attempts is sound i a at =
    let clients : w.clients ≡ map down_client attempts = ap (λ (v : ExactWorld). v.clients) is in
    let there : slice_get w.clients i ≡ Some (down_client a) = ap (λ xs. slice_get xs i) clients ∙ image_at down_client attempts i a at in
    let named : numbered w.clients (i + 0 + 1) ≡ Some (down_client a) = at_place w.clients i (down_client a) there in record {
      attempt = a;
      part = ap client_part named;
      range = (sound.each_client (i + 0 + 1) (down_client a) named).kept;
      finds = refl;
    }

-- each node is ready with what the first records find
pub ready_nodes : (w : ExactWorld) (votes : List Ballot) (stations : List ExactStation) (attempts : List ℕ) (found : List (List (List ℕ))) → w ≡ resumed votes stations attempts → KeepsRecords w → found ≡ map finds_station stations →
    AreNodesReady 0 w found
ready_nodes w votes stations attempts found is keeps by_station i strings at_s = go (slice_get stations i) refl
  where
    found_at : option_map finds_station (slice_get stations i) ≡ Some strings
    found_at = sym (slice_get-map finds_station stations i) ∙ ap (λ xs. slice_get xs i) (sym by_station) ∙ at_s

    go : (o : Option ExactStation) → slice_get stations i ≡ o → IsNodeReady w (i + 0 + 1) strings
    go None e = absurd (let q : None ≡ Some strings = sym (ap (option_map finds_station) e) ∙ found_at in cc)
    go (Some s) e =
        let k : Some (finds_station s) ≡ Some strings = sym (ap (option_map finds_station) e) ∙ found_at in
        let finds : finds_station s ≡ strings = cc in
        subst (λ l. IsNodeReady w (i + 0 + 1) l) finds (node_at w votes stations attempts is keeps i s e)

-- each client is ready with what the other records find
pub ready_clients : (w : ExactWorld) (votes : List Ballot) (stations : List ExactStation) (attempts : List ℕ) (found : List (List (List ℕ))) → w ≡ resumed votes stations attempts → IsSound w → found ≡ map finds_attempt attempts →
    AreClientsReady 0 w found
ready_clients w votes stations attempts found is sound by_attempt i strings at_s = go (slice_get attempts i) refl
  where
    found_at : option_map finds_attempt (slice_get attempts i) ≡ Some strings
    found_at = sym (slice_get-map finds_attempt attempts i) ∙ ap (λ xs. slice_get xs i) (sym by_attempt) ∙ at_s

    go : (o : Option ℕ) → slice_get attempts i ≡ o → IsClientReady w (i + 0 + 1) strings
    go None e = absurd (let q : None ≡ Some strings = sym (ap (option_map finds_attempt) e) ∙ found_at in cc)
    go (Some a) e =
        let k : Some (finds_attempt a) ≡ Some strings = sym (ap (option_map finds_attempt) e) ∙ found_at in
        let finds : finds_attempt a ≡ strings = cc in
        subst (λ l. IsClientReady w (i + 0 + 1) l) finds (client_at w votes stations attempts is sound i a e)

-- what the records before a place find, and those from there on
pub front : {X Y : Type 0} (f : X → Y) (xs : List X) (ys zs : List Y) (n : ℕ) → map f xs ≡ ys ++ zs → n ≡ length ys → map f (take n xs) ≡ ys
front f xs ys zs n is count = sym (take-map f n xs) ∙ ap (take n) is ∙ ap (λ k. take k (ys ++ zs)) count ∙ take-append_seam ys zs

pub back : {X Y : Type 0} (f : X → Y) (xs : List X) (ys zs : List Y) (n : ℕ) → map f xs ≡ ys ++ zs → n ≡ length ys → map f (drop n xs) ≡ zs
back f xs ys zs n is count = sym (drop-map f n xs) ∙ ap (drop n) is ∙ ap (λ k. drop k (ys ++ zs)) count ∙ drop-append_seam ys zs

-- the first of two lists that are joined, and the second
pub same_front : {X : Type 0} (xs ys zs ws : List X) → xs ++ ys ≡ zs ++ ws → length xs ≡ length zs → xs ≡ zs
same_front xs ys zs ws is long = sym (take-append_seam xs ys) ∙ ap (take (length xs)) is ∙ ap (λ n. take n (zs ++ ws)) long ∙ take-append_seam zs ws

pub same_back : {X : Type 0} (xs ys zs ws : List X) → xs ++ ys ≡ zs ++ ws → length xs ≡ length zs → ys ≡ ws
same_back xs ys zs ws is long = sym (drop-append_seam xs ys) ∙ ap (drop (length xs)) is ∙ ap (λ n. drop n (zs ++ ws)) long ∙ drop-append_seam zs ws

-- what the records of nodes find, and what those of clients do, where they are handed in apart
pub both_found : {X Y : Type 0} (f : X → List (List ℕ)) (h : Y → List (List ℕ)) (w : ExactWorld) (votes : List Ballot) (pairs : ℕ) (xs : List X) (ys : List Y) (may : MayRun w votes pairs (map f xs ++ map h ys)) → length xs ≡ pairs
    → (map f xs ≡ map finds_station may.stations) × (map h ys ≡ map finds_attempt may.attempts)
both_found f h w votes pairs xs ys may paired =
    let long : length (map f xs) ≡ length (map finds_station may.stations) = length-map xs f ∙ paired ∙ may.paired ∙ sym (length-map may.stations finds_station) in (
      same_front (map f xs) (map h ys) (map finds_station may.stations) (map finds_attempt may.attempts) may.records long,
      same_back (map f xs) (map h ys) (map finds_station may.stations) (map finds_attempt may.attempts) may.records long,
    )

-- as many as these, and as many as the stations with the attempts
pub as_many : {X Y Z : Type 0} (f : X → Y) (h : Z → Y) (xs : List X) (zs : List Z) → map f xs ≡ map h zs → length xs ≡ length zs
as_many f h xs zs is = sym (length-map xs f) ∙ ap length is ∙ length-map zs h

pub as_many_both : {X Y A B : Type 0} (f : X → Y) (h : A → Y) (k : B → Y) (xs : List X) (front : List A) (back : List B) → map f xs ≡ map h front ++ map k back → length xs ≡ length front + length back
as_many_both f h k xs front back is =
    let long : length (map h front ++ map k back) ≡ length (map h front) + length (map k back) = length-append (map h front) (map k back) in
    let all : length xs ≡ length (map h front ++ map k back) = sym (length-map xs f) ∙ ap length is in
    omega (arith, long, all, length-map front h, length-map back k)

-- the nodes and the clients are as many as may be
pub few_stations : (w : ExactWorld) (votes : List Ballot) (stations : List ExactStation) (attempts : List ℕ) → w ≡ resumed votes stations attempts → KeepsRecords w → length stations ≤ MAX_NODES
few_stations w votes stations attempts is keeps = subst (λ n. n ≤ MAX_NODES) (ap (λ (v : ExactWorld). length v.nodes) is ∙ length-map stations down_node) keeps.few_nodes

pub few_attempts : (w : ExactWorld) (votes : List Ballot) (stations : List ExactStation) (attempts : List ℕ) → w ≡ resumed votes stations attempts → KeepsRecords w → length attempts ≤ MAX_CLIENTS
few_attempts w votes stations attempts is keeps = subst (λ n. n ≤ MAX_CLIENTS) (ap (λ (v : ExactWorld). length v.clients) is ∙ length-map attempts down_client) keeps.few_clients

-- how many nodes and clients the world has
pub many_nodes : (w : ExactWorld) (votes : List Ballot) (stations : List ExactStation) (attempts : List ℕ) → w ≡ resumed votes stations attempts → length w.nodes ≡ length stations
many_nodes w votes stations attempts is = ap (λ (v : ExactWorld). length v.nodes) is ∙ length-map stations down_node

pub many_clients : (w : ExactWorld) (votes : List Ballot) (stations : List ExactStation) (attempts : List ℕ) → w ≡ resumed votes stations attempts → length w.clients ≡ length attempts
many_clients w votes stations attempts is = ap (λ (v : ExactWorld). length v.clients) is ∙ length-map attempts down_client

-- the place behind the stations' records
pub at_stations : (n count : ℕ) (stations : List ExactStation) → n ≡ count → count ≡ length stations → n ≡ length (map finds_station stations)
at_stations n count stations is many = is ∙ many ∙ sym (length-map stations finds_station)

-- as many as were counted
pub as_counted : {X : Type 0} (num : X → ℕ) (xs : List X) (count : ℕ) → map num xs ≡ range_with_len 1 count → length xs ≡ count
as_counted num xs count is = sym (length-map xs num) ∙ ap length is ∙ length-range_with_len 1 count
