-- An actor that has logged nothing in a new book is what its loop needs.
use Rattle.std.proofs.Common.{◌≡◌, ℕ, zero, suc, ◌-◌, ◌<◌, ◌≤◌, cond, List, [], ◌∷◌, map, replicate, slice_get, Some, None, refl, sym, ap, ◌∙◌, subst, arith}
use Rattle.std.proofs.lemmas.Bool.{ne_eqb}
use Rattle.lock_messages.specs.declared.ids.Actor.TheVariants as actor
use Rattle.lock_model.specs.Ballots.{Ballot, node_count}
use Rattle.lock_model.specs.declared.problems.Problem.TheVariants.{First}
use Rattle.stable_record.specs.declared.node_records.NodeRecord.{NodeRecord}
use Rattle.stable_record.specs.Records.{IsNodeRecord, node_record_of}
use Rattle.world_model.specs.ExactWorlds.{numbered}
use Rattle.world_model.specs.Openings.{down_node, down_client, empty_station}
use Rattle.world_model.specs.Parts.{node_part, client_part}
use Rattle.event_recorders.specs.OwnLogs.{OwnLog, IsDownAtRest}
use Rattle.node_loop.specs.Standing.{IsReady}
use Rattle.run_service.specs.Empty.{empty_record}
use Rattle.book_support.specs.Fresh.{new_log}
use Rattle.run_tests.specs.Fresh.{node_log, client_log}
use Rattle.node_threads.proofs.Openings.{image_at}

-- each place of a list of one value has it
same_at : {A : Type 0} (m i : ℕ) (x : A) → i < m → slice_get (replicate m x) i ≡ Some x
same_at zero i x within = absurd (omega (arith, within))
same_at (suc m) zero x within = refl
same_at (suc m) (suc i) x within = same_at m i x (omega (arith, within))

-- what stands at a place, counted from 0, has the next number
by_number : {A : Type 0} (xs : List A) (n : ℕ) (x : A) → 1 ≤ n → slice_get xs (n - 1) ≡ Some x → numbered xs n ≡ Some x
by_number xs n x some at = ap (λ b. cond b None (slice_get xs (n - 1))) (ne_eqb n 0 (λ z. absurd (omega (arith, z, some)))) ∙ at

pub logs_as_node : (b : List Ballot) (clients n : ℕ) (l : OwnLog) → l ≡ new_log b First clients (actor.Node n) → 1 ≤ n → n ≤ node_count b → l ≡ node_log b n
logs_as_node b clients n l is some there =
    let m = node_count b in
    let within : n - 1 < m = omega (arith, some, there) in
    let station = image_at empty_station (replicate m First) (n - 1) First (same_at m (n - 1) First within) in
    let node = image_at down_node (map empty_station (replicate m First)) (n - 1) (empty_station First) station in
    is ∙ ap (λ o. record { actor = actor.Node n; ballots = b; opening = node_part o; events = [] })
    (by_number (map down_node (map empty_station (replicate m First))) n (down_node (empty_station First)) some node)

pub logs_as_client : (b : List Ballot) (clients c : ℕ) (l : OwnLog) → l ≡ new_log b First clients (actor.Client c) → 1 ≤ c → c ≤ clients → l ≡ client_log b c
logs_as_client b clients c l is some there =
    let within : c - 1 < clients = omega (arith, some, there) in
    let client = image_at down_client (replicate clients 0) (c - 1) 0 (same_at clients (c - 1) 0 within) in
    is ∙ ap (λ o. record { actor = actor.Client c; ballots = b; opening = client_part o; events = [] })
    (by_number (map down_client (replicate clients 0)) c (down_client 0) some client)

pub node_ready : (b : List Ballot) (n : ℕ) (l : OwnLog) (strings : List (List ℕ)) → l ≡ node_log b n → IsNodeRecord (empty_record First) → strings ≡ node_record_of (empty_record First) ∷ [] → (kept : NodeRecord) × IsReady l n kept strings
node_ready b n l strings new good finds = (
  empty_record First,
  record {
    unused = record { actor = ap (λ (m : OwnLog). m.actor) new; events = ap (λ (m : OwnLog). m.events) new; down = subst (IsDownAtRest (actor.Node n)) (sym (ap (λ (m : OwnLog). m.opening) new)) (refl, refl) };
    opening = ap (λ (m : OwnLog). m.opening) new;
    good = good;
    finds = finds;
  },
)
