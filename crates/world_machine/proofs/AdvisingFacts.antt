-- What is said over the lists of actors is what is said over the numbers of a world.
use Rattle.std.proofs.Common.{◌≡◌, ◌≢◌, ℕ, ◌+◌, ◌-◌, ◌<◌, ◌≤◌, ◌⊎◌, ◌||◌, ◌&&◌, Bool, true, false, not, cond, List, [], ◌∷◌, length, drop, get_or, map, zero, suc, Option, Some, None, IfSome, refl, sym, ◌∙◌, ap, subst, inl, inr, arith}
use Rattle.std.specs.Prelude.{slice_get, is_some, nat_lt}
use Rattle.std.specs.List.{list_any, range_with_len, position, position_or_len}
use Rattle.std.specs.Option.{option_map}
use Rattle.std.proofs.lemmas.Bool.{eq-eqb, ne_eqb, lt-ltb, le-ltb, cases_lt}
use Rattle.std.proofs.lemmas.List.{length-map, at_drop_more}
use Rattle.std.proofs.lemmas.List.Quantifiers.{position-Some}
use Rattle.std.proofs.lemmas.Option.{get_or_from_slice_get, IfSome_then}
use Rattle.std.proofs.Math.Bool.{or-false}
use Rattle.lock_messages.specs.declared.messages.Message.{Message}
use Rattle.lock_messages.specs.declared.tickets.Ticket.{Ticket}
use Rattle.lock_model.specs.Ballots.{Ballot, node_count}
use Rattle.stable_record.proofs.ListFacts.{place-some}
use Rattle.world_actors.specs.Acting.{ActingNode, ActingClient}
use Rattle.world_actors.specs.Asking.{asked_in}
use Rattle.world_model.specs.declared.exact.ExactClientPhase.{ExactClientPhase}
use Rattle.world_model.specs.declared.exact.ExactClientPhase.TheVariants as client
use Rattle.world_model.specs.declared.exact.ExactPresent.{ExactPresent}
use Rattle.world_model.specs.declared.exact.ExactWorld.{ExactWorld}
use Rattle.world_model.specs.declared.ways.Move.{Move}
use Rattle.world_model.specs.declared.ways.Want.{Want}
use Rattle.world_model.specs.Advice.{found, search, only, alone, finishing, coming, blocks, going, resting, beginning, is_up, is_client_up, asking_of, entering, finish_move, clear_at as cleared_at, clear_move, own_in, own_move, next_move, node_numbers, client_numbers, is_held, can_be_won, is_grant}
use Rattle.world_model.specs.ExactWorlds.{numbered}
use Rattle.world_model.specs.Forgetting.{node_of, client_of, client_phase_of, node_numbered, client_numbered, forget, setting_of, present_of}
use Rattle.world_model.specs.Numbered.{numbered-map, numbered-next, past-zero, numbered-one, numbered-there}
use Rattle.world_model.specs.Worlds.{Node, Client, World, Present, ClientDown, ClientIdle, Chosen, Asking, IsIn}
use Rattle.world_machine.specs.Advising.{first_found, finish_at, clear_at, clear_node, ask_node, or_enters, asks, own_if, first_move, is_held_by, is_won, wins, number_of_grant, asking_in, asking_if, grant_if}
use Rattle.world_machine.specs.Machines.{node_part, client_part, AreNodes, AreClients, IsWorld, world_view}

-- what is found first in a list is what the search over the numbers of its places finds
first-is-search : {A B : Type 0} (g : A → Option B) (f : ℕ → Option B) (start : ℕ) (xs : List A) → ((i : ℕ) (x : A) → slice_get xs i ≡ Some x → g x ≡ f (start + i)) →
    first_found g xs ≡ search f (range_with_len start (length xs))
first-is-search g f start [] same = refl
first-is-search g f start (x ∷ xs) same =
    let here : g x ≡ f start = same 0 x refl ∙ ap f (let e : start + 0 ≡ start = omega arith in e) in
    ap (λ o. found o (first_found g xs)) here
    ∙ ap (found (f start)) (first-is-search g f (start + 1) xs (λ i y at. same (suc i) y at ∙ ap f (let e : start + suc i ≡ start + 1 + i = omega arith in e)))

-- where a loop has passed over those that give nothing, what the next one gives is found
pub found-here : {A B : Type 0} (f : A → Option B) (xs : List A) (i : ℕ) (x : A) (b : B) → i < length xs → x ≡ get_or xs i x → f x ≡ Some b → first_found f (drop i xs) ≡ first_found f xs → Some b ≡ first_found f xs
found-here f xs i x b within is here passed =
    sym (sym passed ∙ at_drop_more (first_found f) xs i x within ∙ ap (λ y. first_found f (y ∷ drop (i + 1) xs)) (sym is) ∙ ap (λ o. found o (first_found f (drop (i + 1) xs))) here)

-- so it is of a test that one of them passes
any-is-any : {A : Type 0} (g : A → Bool) (f : ℕ → Bool) (start : ℕ) (xs : List A) → ((i : ℕ) (x : A) → slice_get xs i ≡ Some x → g x ≡ f (start + i)) →
    list_any g xs ≡ list_any f (range_with_len start (length xs))
any-is-any g f start [] same = refl
any-is-any g f start (x ∷ xs) same =
    let here : g x ≡ f start = same 0 x refl ∙ ap f (let e : start + 0 ≡ start = omega arith in e) in
    ap (λ b. b || list_any g xs) here
    ∙ ap (λ b. f start || b) (any-is-any g f (start + 1) xs (λ i y at. same (suc i) y at ∙ ap f (let e : start + suc i ≡ start + 1 + i = omega arith in e)))

-- where none or only one may pass
any-none : {A : Type 0} (p : A → Bool) (xs : List A) → ((i : ℕ) (x : A) → slice_get xs i ≡ Some x → p x ≡ false) → list_any p xs ≡ false
any-none p [] none = refl
any-none p (x ∷ xs) none = ap (λ b. b || list_any p xs) (none 0 x refl) ∙ any-none p xs (λ i y at. none (suc i) y at)

any-one : {A : Type 0} (p : A → Bool) (xs : List A) (k : ℕ) (z : A) → slice_get xs k ≡ Some z → ((i : ℕ) (x : A) → slice_get xs i ≡ Some x → i ≢ k → p x ≡ false) → list_any p xs ≡ p z
any-one p [] k z at others = absurd (let q : None ≡ Some z = at in cc)
any-one p (x ∷ xs) zero z at others =
    let q : Some x ≡ Some z = at in
    let same : x ≡ z = cc in
    ap (λ b. p x || b) (any-none p xs (λ i y there. others (suc i) y there (λ e. omega (arith, e)))) ∙ or-false (p x) ∙ ap p same
any-one p (x ∷ xs) (suc k) z at others =
    ap (λ b. b || list_any p xs) (others 0 x refl (λ e. omega (arith, e)))
    ∙ any-one p xs k z at (λ i y there apart. others (suc i) y there (λ e. apart (let q : i ≡ k = omega (arith, e) in q)))

-- the actor at a place stands under the number of it

node-number : (ns : List ActingNode) → AreNodes ns → (i : ℕ) (v : ActingNode) → slice_get ns i ≡ Some v → v.number ≡ i + 1
node-number ns order i v at = order (i + 1) v (numbered-next ns i ∙ at)

node-part-at : (w : ExactWorld) (ns : List ActingNode) → w.nodes ≡ map node_part ns → AreNodes ns → (i : ℕ) (v : ActingNode) → slice_get ns i ≡ Some v → (forget w).nodes v.number ≡ node_of v.part
node-part-at w ns is order i v at =
    ap node_numbered (ap (numbered w.nodes) (node-number ns order i v at) ∙ ap (λ xs. numbered xs (i + 1)) is ∙ numbered-map node_part ns (i + 1) ∙ ap (option_map node_part) (numbered-next ns i ∙ at))

client-number : (b : List Ballot) (ks : List ActingClient) → AreClients b ks → (i : ℕ) (k : ActingClient) → slice_get ks i ≡ Some k → k.number ≡ i + 1
client-number b ks order i k at = (order (i + 1) k (numbered-next ks i ∙ at)).0

client-part-at : (w : ExactWorld) (ks : List ActingClient) → w.clients ≡ map client_part ks → AreClients w.ballots ks → (i : ℕ) (k : ActingClient) → slice_get ks i ≡ Some k → (forget w).clients k.number ≡ client_of k.part
client-part-at w ks is order i k at =
    ap client_numbered (ap (numbered w.clients) (client-number w.ballots ks order i k at) ∙ ap (λ xs. numbered xs (i + 1)) is ∙ numbered-map client_part ks (i + 1) ∙ ap (option_map client_part) (numbered-next ks i ∙ at))

-- a search over the numbers of nodes, or of clients

nodes-search : {B : Type 0} (w : ExactWorld) (ns : List ActingNode) (g : ActingNode → Option B) (f : ℕ → Option B) → w.nodes ≡ map node_part ns → AreNodes ns → length ns ≡ node_count w.ballots →
    ((v : ActingNode) → (forget w).nodes v.number ≡ node_of v.part → g v ≡ f v.number) → first_found g ns ≡ search f (node_numbers (setting_of w))
nodes-search w ns g f is order many same =
    first-is-search g f 1 ns (λ i v at. same v (node-part-at w ns is order i v at) ∙ ap f (node-number ns order i v at ∙ (let e : i + 1 ≡ 1 + i = omega arith in e)))
    ∙ ap (λ k. search f (range_with_len 1 k)) many

clients-search : {B : Type 0} (w : ExactWorld) (ks : List ActingClient) (g : ActingClient → Option B) (f : ℕ → Option B) → w.clients ≡ map client_part ks → AreClients w.ballots ks →
    ((k : ActingClient) → (forget w).clients k.number ≡ client_of k.part → g k ≡ f k.number) → first_found g ks ≡ search f (client_numbers (setting_of w))
clients-search w ks g f is order same =
    first-is-search g f 1 ks (λ i k at. same k (client-part-at w ks is order i k at) ∙ ap f (client-number w.ballots ks order i k at ∙ (let e : i + 1 ≡ 1 + i = omega arith in e)))
    ∙ ap (λ k. search f (range_with_len 1 k)) (sym (ap length is ∙ length-map ks client_part))

clients-any : (w : ExactWorld) (ks : List ActingClient) (g : ActingClient → Bool) (f : ℕ → Bool) → w.clients ≡ map client_part ks → AreClients w.ballots ks →
    ((k : ActingClient) → (forget w).clients k.number ≡ client_of k.part → g k ≡ f k.number) → list_any g ks ≡ list_any f (client_numbers (setting_of w))
clients-any w ks g f is order same =
    any-is-any g f 1 ks (λ i k at. same k (client-part-at w ks is order i k at) ∙ ap f (client-number w.ballots ks order i k at ∙ (let e : i + 1 ≡ 1 + i = omega arith in e)))
    ∙ ap (λ k. list_any f (range_with_len 1 k)) (sym (ap length is ∙ length-map ks client_part))

-- the three parts of the next move

finishes : (w : ExactWorld) (ns : List ActingNode) (chosen : ℕ → Bool) → w.nodes ≡ map node_part ns → AreNodes ns → length ns ≡ node_count w.ballots → first_found (finish_at chosen) ns ≡ finish_move (setting_of w) chosen (forget w)
finishes w ns chosen is order many =
    nodes-search w ns (finish_at chosen) (only chosen (λ n. alone (finishing n ((forget w).nodes n)))) is order many
    (λ v e. ap (λ u. cond (chosen v.number) (alone (finishing v.number u)) None) (sym e))

clears-at : (w : ExactWorld) (ks : List ActingClient) (a : Want) (v : ActingNode) → w.clients ≡ map client_part ks → AreClients w.ballots ks → (forget w).nodes v.number ≡ node_of v.part →
    first_found (clear_at a v) ks ≡ search (cleared_at a (forget w) v.number) (client_numbers (setting_of w))
clears-at w ks a v is order here =
    clients-search w ks (clear_at a v) (cleared_at a (forget w) v.number) is order
    (λ k e. ap (λ u. cond (blocks a (coming u) k.number) (Some (going v.number k.number (resting k.number (client_of k.part)))) None) (sym here)
    ∙ ap (λ u. cond (blocks a (coming ((forget w).nodes v.number)) k.number) (Some (going v.number k.number (resting k.number u))) None) (sym e))

clears : (w : ExactWorld) (ns : List ActingNode) (ks : List ActingClient) (chosen : ℕ → Bool) (a : Want) → w.nodes ≡ map node_part ns → AreNodes ns → length ns ≡ node_count w.ballots → w.clients ≡ map client_part ks → AreClients w.ballots ks →
    first_found (clear_node chosen a ks) ns ≡ clear_move (setting_of w) chosen a (forget w)
clears w ns ks chosen a is order many clients_are clients_order =
    nodes-search w ns (clear_node chosen a ks) (only chosen (λ n. search (cleared_at a (forget w) n) (client_numbers (setting_of w)))) is order many
    (λ v e. ap (λ o. cond (chosen v.number) o None) (clears-at w ks a v clients_are clients_order e))

enters-same : (a : Want) (o : Option Move) → Some (or_enters a o) ≡ entering a o
enters-same a None = refl
enters-same a (Some mv) = refl

asks-same : (w : ExactWorld) (ns : List ActingNode) (chosen : ℕ → Bool) (a : Want) (p : ExactClientPhase) → w.nodes ≡ map node_part ns → AreNodes ns → length ns ≡ node_count w.ballots →
    asks chosen a w.sent ns (asked_in p) ≡ own_in (setting_of w) chosen a (forget w) (client_phase_of p)
asks-same w ns chosen a client.Down is order many = refl
asks-same w ns chosen a client.Idle is order many = refl
asks-same w ns chosen a (client.Chosen t place) is order many = refl
asks-same w ns chosen a (client.Asking p) is order many =
    enters-same a (first_found (ask_node chosen a w.sent p.ticket p.granted) ns)
    ∙ ap (entering a) (nodes-search w ns (ask_node chosen a w.sent p.ticket p.granted) (only chosen (asking_of a (present_of p) w.sent)) is order many (λ v e. refl))
asks-same w ns chosen a (client.Inside p) is order many = refl

owns : (w : ExactWorld) (ns : List ActingNode) (ks : List ActingClient) (chosen : ℕ → Bool) (a : Want) → w.nodes ≡ map node_part ns → AreNodes ns → length ns ≡ node_count w.ballots → w.clients ≡ map client_part ks →
    own_if chosen a w.sent ns (numbered ks a.client) ≡ own_move (setting_of w) chosen a (forget w)
owns w ns ks chosen a is order many clients_are =
    go (numbered ks a.client) ∙ ap (λ o. moves (client_numbered o)) (sym (ap (λ xs. numbered xs a.client) clients_are ∙ numbered-map client_part ks a.client))
  where
    moves : Client → Option Move
    moves k = found (alone (beginning a k)) (own_in (setting_of w) chosen a (forget w) k.phase)

    go : (o : Option ActingClient) → own_if chosen a w.sent ns o ≡ moves (client_numbered (option_map client_part o))
    go None = refl
    go (Some k) = ap (found (alone (beginning a (client_of k.part)))) (asks-same w ns chosen a k.part.phase is order many)

-- so the next move is the first of them that there is
pub nexts : (b : List Ballot) (ns : List ActingNode) (ks : List ActingClient) (sent : List Message) (chosen : ℕ → Bool) (a : Want) → IsWorld b ns ks sent →
    first_move chosen a sent ns ks ≡ next_move (setting_of (world_view b ns ks sent)) chosen a (forget (world_view b ns ks sent))
nexts b ns ks sent chosen a h =
    let w = world_view b ns ks sent in
    let many : length ns ≡ node_count b = sym (length-map ns node_part) ∙ h.sound.nodes in
    ap (λ o. found o (found (first_found (clear_node chosen a ks) ns) (own_if chosen a sent ns (numbered ks a.client)))) (finishes w ns chosen refl h.order.nodes many)
    ∙ ap (λ o. found (finish_move (setting_of w) chosen (forget w)) (found o (own_if chosen a sent ns (numbered ks a.client)))) (clears w ns ks chosen a refl h.order.nodes many refl h.order.clients)
    ∙ ap (λ o. found (finish_move (setting_of w) chosen (forget w)) (found (clear_move (setting_of w) chosen a (forget w)) o)) (owns w ns ks chosen a refl h.order.nodes many refl)

-- the nodes that can be won

wins-there : (a : Want) (ks : List ActingClient) (n : ℕ) (v : ActingNode) → v.number ≡ n → wins a ks n v ≡ is_won a ks v
wins-there a ks n v e = ap (λ b. b && is_won a ks v) (eq-eqb v.number n e)

wins-apart : (a : Want) (ks : List ActingClient) (n : ℕ) (v : ActingNode) → v.number ≢ n → wins a ks n v ≡ false
wins-apart a ks n v apart = ap (λ b. b && is_won a ks v) (ne_eqb v.number n apart)

pub won-are : (b : List Ballot) (ns : List ActingNode) (ks : List ActingClient) (sent : List Message) (a : Want) → IsWorld b ns ks sent → (n : ℕ) →
    list_any (wins a ks n) ns ≡ can_be_won (setting_of (world_view b ns ks sent)) a (forget (world_view b ns ks sent)) n
won-are b ns ks sent a h n = go (numbered ns n) refl ∙ ap (λ o. is_won_as (node_numbered o)) (sym (numbered-map node_part ns n))
  where
    w : ExactWorld
    w = world_view b ns ks sent

    is_won_as : Node → Bool
    is_won_as v = is_up v.phase && not (list_any (is_held a (forget w) (coming v)) (client_numbers (setting_of w)))

    held : (v : ActingNode) → list_any (is_held_by a v) ks ≡ list_any (is_held a (forget w) (coming (node_of v.part))) (client_numbers (setting_of w))
    held v = clients-any w ks (is_held_by a v) (is_held a (forget w) (coming (node_of v.part))) refl h.order.clients
        (λ k e. ap (λ u. blocks a (coming (node_of v.part)) k.number && not (is_client_up u.phase)) (sym e))

    go : (o : Option ActingNode) → numbered ns n ≡ o → list_any (wins a ks n) ns ≡ is_won_as (node_numbered (option_map node_part o))
    go None none =
        any-none (wins a ks n) ns (λ i v at. wins-apart a ks n v (λ e.
        let there : numbered ns n ≡ Some v = ap (numbered ns) (sym e ∙ node-number ns h.order.nodes i v at) ∙ numbered-next ns i ∙ at in
        let q : None ≡ Some v = sym none ∙ there in cc))
    go (Some v) is =
        let one = (numbered-one ns n v is).0 in
        let at : slice_get ns (n - 1) ≡ Some v = sym (past-zero ns n one) ∙ is in
        any-one (wins a ks n) ns (n - 1) v at (λ i u there apart. wins-apart a ks n u (λ e.
        apart (let q : i ≡ n - 1 = omega (arith, sym e ∙ node-number ns h.order.nodes i u there) in q)))
        ∙ wins-there a ks n v (h.order.nodes n v is)
        ∙ ap (λ c. is_up (node_of v.part).phase && not c) (held v)

-- what stands at the place that is found passes the test

pub place-passes : {A : Type 0} (p : A → Bool) (xs : List A) (i : ℕ) → position p xs ≡ Some i → i < length xs → (x : A) × (numbered xs (i + 1) ≡ Some x) × (p x ≡ true)
place-passes p xs i is within =
    let at = numbered-there xs (i + 1) (omega arith) (omega (arith, within)) in
    let there = sym (numbered-next xs i) ∙ at.1 in
    (at.0, at.1, ap p (sym (get_or_from_slice_get xs i at.0 at.0 there)) ∙ (position-Some p xs i at.0 is).1)

-- The number of a Grant that the client hears, as the world of sets and maps has the client.

position-within : {A : Type 0} (p : A → Bool) (xs : List A) (i : ℕ) → position p xs ≡ Some i → i < length xs
position-within p xs i is = go (cases_lt (position_or_len p xs) (length xs))
  where
    it : Option ℕ
    it = cond (nat_lt (position_or_len p xs) (length xs)) (Some (position_or_len p xs)) None

    go : (position_or_len p xs < length xs) ⊎ (length xs ≤ position_or_len p xs) → i < length xs
    go (inl below) = let q : Some (position_or_len p xs) ≡ Some i = sym (ap (λ b. cond b (Some (position_or_len p xs)) None) (lt-ltb (position_or_len p xs) (length xs) below)) ∙ is in let same : position_or_len p xs ≡ i = cc in omega (arith, below, same)
    go (inr past) = absurd (let q : None ≡ Some i = sym (ap (λ b. cond b (Some (position_or_len p xs)) None) (le-ltb (position_or_len p xs) (length xs) past)) ∙ is in cc)

first-grant : (n : ℕ) (t : Ticket) (sent : List Message) → IfSome (number_of_grant n t sent) (λ k. (m : Message) × (numbered sent k ≡ Some m) × (is_grant n t m ≡ true))
first-grant n t sent = go (position (is_grant n t) sent) refl
  where
    go : (o : Option ℕ) → position (is_grant n t) sent ≡ o → IfSome (option_map (λ i. i + 1) o) (λ k. (m : Message) × (numbered sent k ≡ Some m) × (is_grant n t m ≡ true))
    go None is = tt
    go (Some i) is = place-passes (is_grant n t) sent i is (position-within (is_grant n t) sent i is)

no-grant : (n : ℕ) (t : Ticket) (sent : List Message) → number_of_grant n t sent ≡ None → list_any (is_grant n t) sent ≡ false
no-grant n t sent h = go (position (is_grant n t) sent) refl h
  where
    go : (o : Option ℕ) → position (is_grant n t) sent ≡ o → option_map (λ i. i + 1) o ≡ None → list_any (is_grant n t) sent ≡ false
    go None is q = sym (place-some (is_grant n t) sent) ∙ ap is_some is
    go (Some i) is q = absurd (let z : Some (i + 1) ≡ None = q in cc)

same-ticket : (p : ExactPresent) (q : Present) → Asking (present_of p) ≡ Asking q → p.ticket ≡ q.ticket
same-ticket p q e = let same : present_of p ≡ q = cc in ap (λ (x : Present). x.ticket) same

client-numbered : (b : List Ballot) (ns : List ActingNode) (ks : List ActingClient) (sent : List Message) (c : ℕ) → (forget (world_view b ns ks sent)).clients c ≡ client_numbered (option_map client_part (numbered ks c))
client-numbered b ns ks sent c = ap client_numbered (numbered-map client_part ks c)

pub hears-first : (b : List Ballot) (ns : List ActingNode) (ks : List ActingClient) (sent : List Message) (c n : ℕ) →
    IfSome (grant_if n (asking_if (numbered ks c)) sent) (λ k. (m : Message) × (p : Present) × (((forget (world_view b ns ks sent)).clients c).phase ≡ Asking p) × (numbered sent k ≡ Some m) × (is_grant n p.ticket m ≡ true))
hears-first b ns ks sent c n = go (numbered ks c) (client-numbered b ns ks sent c)
  where
    w : World
    w = forget (world_view b ns ks sent)

    asking : (phase : ExactClientPhase) → (w.clients c).phase ≡ client_phase_of phase →
        IfSome (grant_if n (asking_in (asked_in phase)) sent) (λ k. (m : Message) × (p : Present) × ((w.clients c).phase ≡ Asking p) × (numbered sent k ≡ Some m) × (is_grant n p.ticket m ≡ true))
    asking client.Down is = tt
    asking client.Idle is = tt
    asking (client.Chosen t place) is = tt
    asking (client.Asking p) is = IfSome_then (number_of_grant n p.ticket sent) (first-grant n p.ticket sent) (λ k h. (h.0, present_of p, is, h.1, h.2))
    asking (client.Inside p) is = tt

    go : (o : Option ActingClient) → w.clients c ≡ client_numbered (option_map client_part o) →
        IfSome (grant_if n (asking_if o) sent) (λ k. (m : Message) × (p : Present) × ((w.clients c).phase ≡ Asking p) × (numbered sent k ≡ Some m) × (is_grant n p.ticket m ≡ true))
    go None is = tt
    go (Some k) is = asking k.part.phase (ap (λ (x : Client). x.phase) is)

pub hears-none : (b : List Ballot) (ns : List ActingNode) (ks : List ActingClient) (sent : List Message) (c n : ℕ) → grant_if n (asking_if (numbered ks c)) sent ≡ None →
    (p : Present) → ((forget (world_view b ns ks sent)).clients c).phase ≡ Asking p → list_any (is_grant n p.ticket) sent ≡ false
hears-none b ns ks sent c n none p asks = go (numbered ks c) (client-numbered b ns ks sent c) none
  where
    w : World
    w = forget (world_view b ns ks sent)

    asking : (phase : ExactClientPhase) → client_phase_of phase ≡ Asking p → grant_if n (asking_in (asked_in phase)) sent ≡ None → list_any (is_grant n p.ticket) sent ≡ false
    asking client.Down is q = absurd (let z : ClientDown ≡ Asking p = is in cc)
    asking client.Idle is q = absurd (let z : ClientIdle ≡ Asking p = is in cc)
    asking (client.Chosen t place) is q = absurd (let z : Chosen t place ≡ Asking p = is in cc)
    asking (client.Asking r) is q = subst (λ t. list_any (is_grant n t) sent ≡ false) (same-ticket r p is) (no-grant n r.ticket sent q)
    asking (client.Inside r) is q = absurd (let z : IsIn (present_of r) ≡ Asking p = is in cc)

    go : (o : Option ActingClient) → w.clients c ≡ client_numbered (option_map client_part o) → grant_if n (asking_if o) sent ≡ None → list_any (is_grant n p.ticket) sent ≡ false
    go None is q = absurd (let z : ClientDown ≡ Asking p = sym (ap (λ (x : Client). x.phase) is) ∙ asks in cc)
    go (Some k) is q = asking k.part.phase (sym (ap (λ (x : Client). x.phase) is) ∙ asks) q
