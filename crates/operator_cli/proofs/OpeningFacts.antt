-- Raising the actors, one after another.
use Rattle.std.proofs.Common.{◌≡◌, ℕ, zero, suc, ◌+◌, ◌-◌, ◌<◌, ◌==◌, false, cond, List, [], ◌∷◌, ◌++◌, length, map, replicate, slice_get, slice_set, Some, None, refl, sym, ap, ◌∙◌, arith, append_assoc, length-append}
use Rattle.std.proofs.Math.Seq.{get_or-append_seam, set-append_seam}
use Rattle.std.proofs.lemmas.List.{length-replicate, replicate-append-replicate}
use Rattle.std.proofs.lemmas.Option.{slice_get-get_or}
use Rattle.std.proofs.lemmas.Bool.Decides.{nat_tests}
use Rattle.lock_model.specs.Ballots.{node_count}
use Rattle.lock_messages.specs.declared.ids.Actor.TheVariants as actor
use Rattle.world_model.specs.declared.events.Age.TheVariants as age
use Rattle.world_model.specs.declared.events.Event.TheVariants as event
use Rattle.world_model.specs.declared.exact.ExactNode.{ExactNode}
use Rattle.world_model.specs.declared.exact.ExactClient.{ExactClient}
use Rattle.world_model.specs.ExactNodes.{node_rises_in}
use Rattle.world_model.specs.ExactClients.{client_rises_in}
use Rattle.world_model.specs.ExactWorlds.{numbered, step, after, by_actor, world_after, with_node_at, with_client_at}
use Rattle.world_model.specs.Openings.{down_node, down_client, empty_station, opening}
use Rattle.world_settings.specs.declared.settings.Settings.{Settings}
use Rattle.operator_cli.specs.Openings.{risen_node, risen_client}
use Rattle.operator_cli.specs.PartOutputs.{rising}

-- so many have risen, of so many
abbrev risen_of : {A : Type 0} → A → A → ℕ → ℕ → List A
risen_of up down n k = replicate k up ++ replicate (n - k) down

-- the next one is down
next_is_down : {A : Type 0} (up down : A) (n k : ℕ) → k < n → numbered (risen_of up down n k) (k + 1) ≡ Some down
next_is_down up down n k h =
    let xs = replicate k up in
    let ys = replicate (n - (k + 1)) down in
    let more : n - k ≡ suc (n - (k + 1)) = omega arith in
    let behind : (k + 1) - 1 ≡ k = omega arith in
    let some : ((k + 1) == 0) ≡ false = grind (arith, nat_tests) in
    let size : length xs ≡ k = length-replicate k up in
    let inside : length xs < length (xs ++ down ∷ ys) = simp length-append (omega arith) in
    ap (λ b. cond b None (slice_get (risen_of up down n k) ((k + 1) - 1))) some ∙ ap (λ j. slice_get (risen_of up down n k) j) (behind ∙ sym size)
    ∙ ap (λ j. slice_get (xs ++ replicate j down) (length xs)) more ∙ slice_get-get_or (xs ++ down ∷ ys) (length xs) down inside
    ∙ ap Some (get_or-append_seam xs down ys down)

-- it rises
next_rises : {A : Type 0} (up down : A) (n k : ℕ) → k < n → slice_set (risen_of up down n k) ((k + 1) - 1) up ≡ risen_of up down n (k + 1)
next_rises up down n k h =
    let xs = replicate k up in
    let ys = replicate (n - (k + 1)) down in
    let more : n - k ≡ suc (n - (k + 1)) = omega arith in
    let behind : (k + 1) - 1 ≡ k = omega arith in
    let size : length xs ≡ k = length-replicate k up in
    ap (λ j. slice_set (risen_of up down n k) j up) (behind ∙ sym size) ∙ ap (λ j. slice_set (xs ++ replicate j down) (length xs) up) more
    ∙ set-append_seam xs down ys up ∙ sym (append_assoc xs (up ∷ []) ys) ∙ ap (λ zs. zs ++ ys) (replicate-append-replicate k 1 up)

-- none has risen
none_rose : {A : Type 0} (up down : A) (n : ℕ) → replicate n down ≡ risen_of up down n 0
none_rose up down n = let all : n ≡ n - 0 = omega arith in ap (λ j. replicate j down) all

pub map_same : {A B : Type 0} (f : A → B) (n : ℕ) (x : A) → map f (replicate n x) ≡ replicate n (f x)
map_same f zero x = refl
map_same f (suc n) x = ap (λ ys. f x ∷ ys) (map_same f n x)

pub node_rises : (s : Settings) (k : ℕ) → k < node_count s.ballots → after (rising s k 0) (event.Rise (actor.Node (k + 1)) age.Old) ≡ rising s (k + 1) 0
unfolding step
node_rises s k h =
    let w = rising s k 0 in
    let n = node_count s.ballots in
    let up = risen_node s.problem in
    let down = down_node (empty_station s.problem) in
    ap (λ o. world_after w (by_actor w (with_node_at w (k + 1)) o (λ v. node_rises_in age.Old v v.phase))) (next_is_down up down n k h)
    ∙ ap (λ (nodes : List ExactNode). record { ballots = s.ballots; nodes = nodes; clients = w.clients; sent = [] }) (next_rises up down n k h)

pub client_rises : (s : Settings) (n k : ℕ) → k < s.clients → after (rising s n k) (event.Rise (actor.Client (k + 1)) age.Old) ≡ rising s n (k + 1)
unfolding step
client_rises s n k h =
    let w = rising s n k in
    let up = risen_client in
    let down = down_client 0 in
    ap (λ o. world_after w (by_actor w (with_client_at w (k + 1)) o (λ v. client_rises_in age.Old v v.phase))) (next_is_down up down s.clients k h)
    ∙ ap (λ (clients : List ExactClient). record { ballots = s.ballots; nodes = w.nodes; clients = clients; sent = [] }) (next_rises up down s.clients k h)

pub begins_down : (s : Settings) → opening s.ballots (replicate (node_count s.ballots) s.problem) s.clients ≡ rising s 0 0
begins_down s =
    let n = node_count s.ballots in
    let down = down_node (empty_station s.problem) in
    let nodes = ap (map down_node) (map_same empty_station n s.problem) ∙ map_same down_node n (empty_station s.problem) ∙ none_rose (risen_node s.problem) down n in
    let clients = map_same down_client s.clients 0 ∙ none_rose risen_client (down_client 0) s.clients in
    λ i. record { ballots = s.ballots; nodes = nodes i; clients = clients i; sent = [] }
