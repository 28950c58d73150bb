-- Where a move leads, and when it brings the client nearer: what each kind of move has to show.
use Rattle.std.proofs.Common.{◌≡◌, ◌≢◌, ℕ, ◌+◌, ◌<◌, ◌≤◌, ◌⊎◌, Bool, true, false, if◌then◌else◌, List, [], ◌∷◌, zero, suc, refl, sym, ap, subst, inl, inr, arith}
use Rattle.std.specs.List.{range_with_len, list_any}
use Rattle.std.proofs.lemmas.Bool.{cases_eq}
use Rattle.lock_messages.specs.declared.tickets.Ticket.{Ticket}
use Rattle.lock_messages.specs.declared.messages.Message.{Message}
use Rattle.lock_messages.specs.declared.messages.Message.TheVariants.{Grant}
use Rattle.lock_messages.specs.Messages.{is_for_node, is_for_client}
use Rattle.lock_model.specs.Ballots.{HasAnyNode, IsEnough, ballot_at, node_count}
use Rattle.lock_model.specs.Decisions.{Among}
use Rattle.lock_model.proofs.EntryFacts.{any-found, any-of}
use Rattle.world_model.specs.Worlds.{NodePhase, Present, ClientPhase, ClientDown, ClientIdle, Chosen, Asking, IsIn, Client, World, Setting, HasClient, OfClient, ByNode, ByClient, Tells, Takes, Hears, Happens}
use Rattle.world_model.specs.Invariants.{IsSafe}
use Rattle.world_model.specs.declared.ways.Move.{Move}
use Rattle.world_model.specs.declared.ways.Move.TheVariants.{Alone, Hand, HearFrom}
use Rattle.world_model.specs.declared.ways.Want.{Want}
use Rattle.world_model.specs.Advice.{asks_for, is_grant, node_numbers, client_numbers}
use Rattle.world_model.specs.Ways.{IsPossible, IsReady}
use Rattle.world_model.specs.ExactWays.{IsLeft, total_over}
use Rattle.world_model.proofs.Costs.{promises, vote_cost, ask_cost, node_cost, client_cost, cost}

-- who has an attempt left is up
pub left-up : (a : Want) (kept : ℕ) (phase : ClientPhase) → IsLeft a kept phase → phase ≢ ClientDown
left-up a kept phase left e = subst (IsLeft a kept) e left

-- what holds from the first move to the last
pub record Fine (s : Setting) (chosen : ℕ → Bool) (a : Want) (w : World) : Type 0 where
  pub possible : IsPossible s a
  pub enough : IsEnough (ballot_at s.ballots a.place) a.mode chosen
  pub safe : IsSafe s w
  pub strangers : (c : ℕ) → ¬ (HasClient s c) → (w.clients c).kept ≡ 0
  pub left : IsLeft a (w.clients a.client).kept (w.clients a.client).phase
  pub ready : (n : ℕ) → chosen n ≡ true → IsReady w a n

-- a client says this message to a node, which takes it
pub record Hands (s : Setting) (d n : ℕ) (w v : World) : Type 0 where
  pub before : Client
  pub message : Message
  pub between : World
  pub node : HasAnyNode s.ballots n
  pub tells : Tells d n before (message ∷ [])
  pub said : OfClient s d w before before (message ∷ []) between
  pub mine : is_for_node message n ≡ true
  pub taken : ByNode s between v n (Takes message)

-- the client hears the node's Grant of the ticket with which it asks
pub record HearsGrant (s : Setting) (a : Want) (n : ℕ) (w v : World) : Type 0 where
  pub present : Present
  pub asks : (w.clients a.client).phase ≡ Asking present
  pub sent : Among (Grant n present.ticket) w.sent
  pub mine : is_for_client (Grant n present.ticket) a.client ≡ true
  pub heard : ByClient s w v a.client (Hears s.ballots a.client (Grant n present.ticket))

-- from w, this move may lead to v
abbrev pub Makes : Setting → Want → World → Move → World → Type 0
Makes s a w (Alone e) v = Happens s w e v
Makes s a w (Hand d n) v = Hands s d n w v
Makes s a w (HearFrom n) v = HearsGrant s a n w v

-- the move brings the client nearer, wherever it leads
abbrev pub Nears : Setting → (ℕ → Bool) → Want → World → Move → Type 0
Nears s chosen a w mv = (v : World) → Makes s a w mv v → Fine s chosen a v × (cost s chosen a v < cost s chosen a w)

-- and it can be made
abbrev pub Goes : Setting → Want → World → Move → Type 0
Goes s a w mv = (v : World) × Makes s a w mv v

-- sums

pub total-le : (f g : ℕ → ℕ) (ns : List ℕ) → ((n : ℕ) → f n ≤ g n) → total_over f ns ≤ total_over g ns
total-le f g [] le = omega arith
total-le f g (n ∷ ns) le = omega (arith, le n, total-le f g ns le)

pub total-less : (f g : ℕ → ℕ) (ns : List ℕ) → ((n : ℕ) → f n ≤ g n) → (k : ℕ) → Among k ns → f k < g k → total_over f ns < total_over g ns
total-less f g [] le k m less = absurd m
total-less f g (n ∷ ns) le k (inl e) less = let here : f n < g n = subst (λ j. f j < g j) e less in omega (arith, here, total-le f g ns le)
total-less f g (n ∷ ns) le k (inr m) less = omega (arith, le n, total-less f g ns le k m less)

-- the numbers from a on
pub among-numbers : (a k n : ℕ) → a ≤ n → n < a + k → Among n (range_with_len a k)
among-numbers a zero n above below = absurd (let z : ⊥ = omega arith in z)
among-numbers a (suc k) n above below =
    elim (cases_eq n a) [
      | inl e ↦ inl e
      | inr apart ↦ inr (among-numbers (a + 1) k n (omega arith) (omega arith))
    ]

pub node-among : (s : Setting) (n : ℕ) → HasAnyNode s.ballots n → Among n (node_numbers s)
node-among s n known = among-numbers 1 (node_count s.ballots) n known.0 (omega (arith, known.1))

pub client-among : (s : Setting) (c : ℕ) → HasClient s c → Among c (client_numbers s)
client-among s c known = among-numbers 1 s.clients c known.0 (omega (arith, known.1))

-- What is said stays said, so that a vote only costs less.

abbrev pub Grows : World → World → Type 0
Grows w v = (m : Message) → Among m w.sent → Among m v.sent

pub any-grows : {A : Type 0} (p : A → Bool) (xs ys : List A) → ((x : A) → Among x xs → Among x ys) → list_any p xs ≡ true → list_any p ys ≡ true
any-grows p xs ys grows h = let f = any-found p xs h in any-of p ys f.0 (grows f.0 f.1) f.2

-- a test that may only turn true
cond-le : (b c : Bool) (low high : ℕ) → (b ≡ true → c ≡ true) → low ≤ high → (if c then low else high) ≤ (if b then low else high)
cond-le true c low high up le = subst (λ x. (if x then low else high) ≤ low) (sym (up refl)) (omega arith)
cond-le false true low high up le = le
cond-le false false low high up le = omega arith

pub vote-le : (n : ℕ) (t : Ticket) (w v : World) (phase : NodePhase) → Grows w v → vote_cost n t v.sent phase ≤ vote_cost n t w.sent phase
vote-le n t w v phase grows =
    cond-le (list_any (is_grant n t) w.sent) (list_any (is_grant n t) v.sent) 1 (if promises n t phase then 2 else 7)
    (any-grows (is_grant n t) w.sent v.sent grows) (one-le (promises n t phase))
  where
    one-le : (b : Bool) → 1 ≤ (if b then 2 else 7)
    one-le true = omega arith
    one-le false = omega arith

pub ask-le : (a : Want) (k : ClientPhase) (n : ℕ) (w v : World) (phase : NodePhase) → Grows w v → ask_cost a k v.sent n phase ≤ ask_cost a k w.sent n phase
ask-le a ClientDown n w v phase grows = omega arith
ask-le a ClientIdle n w v phase grows = omega arith
ask-le a (Chosen t place) n w v phase grows = omega arith
ask-le a (Asking p) n w v phase grows = go (asks_for a p) (p.granted n)
  where
    go : (b c : Bool) → (if b then (if c then 0 else vote_cost n p.ticket v.sent phase) else 7) ≤ (if b then (if c then 0 else vote_cost n p.ticket w.sent phase) else 7)
    go true true = omega arith
    go true false = vote-le n p.ticket w v phase grows
    go false c = omega arith
ask-le a (IsIn p) n w v phase grows = omega arith

-- One node does something.

pub record OnlyNode (s : Setting) (n : ℕ) (w v : World) : Type 0 where
  pub known : HasAnyNode s.ballots n
  pub others : (k : ℕ) → k ≢ n → v.nodes k ≡ w.nodes k
  pub clients : (c : ℕ) → v.clients c ≡ w.clients c
  pub grows : Grows w v

-- what a node costs in this world
abbrev pub costs_at : Setting → Want → World → ℕ → ℕ
costs_at s a w n = node_cost s a (w.clients a.client).phase w.sent n (w.nodes n)

abbrev pub chosen_costs : Setting → (ℕ → Bool) → Want → World → ℕ → ℕ
chosen_costs s chosen a w n = if chosen n then costs_at s a w n else 0

if-le : (b : Bool) (x y : ℕ) → x ≤ y → (if b then x else 0) ≤ (if b then y else 0)
if-le true x y le = le
if-le false x y le = omega arith

-- the same node costs no more once more is said
same-node-le : (s : Setting) (a : Want) (w v : World) (n : ℕ) → v.nodes n ≡ w.nodes n → (v.clients a.client).phase ≡ (w.clients a.client).phase → Grows w v → costs_at s a v n ≤ costs_at s a w n
same-node-le s a w v n same phase grows =
    rw (same, phase) (let le = ask-le a (w.clients a.client).phase n w v (w.nodes n).phase grows in omega (arith, le))

pub node-nearer : (s : Setting) (chosen : ℕ → Bool) (a : Want) (w v : World) (n : ℕ) → OnlyNode s n w v → chosen n ≡ true → costs_at s a v n < costs_at s a w n → cost s chosen a v < cost s chosen a w
node-nearer s chosen a w v n of is less =
    let nodes = total-less (chosen_costs s chosen a v) (chosen_costs s chosen a w) (node_numbers s) each n (node-among s n of.known) here in
    let clients = total-le (λ d. client_cost a d (v.clients d)) (λ d. client_cost a d (w.clients d)) (client_numbers s) same in
    omega (arith, nodes, clients)
  where
    here : chosen_costs s chosen a v n < chosen_costs s chosen a w n
    here = rw (is) less

    at : (k : ℕ) → (k ≡ n) ⊎ (k ≢ n) → chosen_costs s chosen a v k ≤ chosen_costs s chosen a w k
    at k (inl e) = subst (λ j. chosen_costs s chosen a v j ≤ chosen_costs s chosen a w j) (sym e) (omega (arith, here))
    at k (inr apart) = if-le (chosen k) (costs_at s a v k) (costs_at s a w k) (same-node-le s a w v k (of.others k apart) (ap (λ (x : Client). x.phase) (of.clients a.client)) of.grows)

    each : (k : ℕ) → chosen_costs s chosen a v k ≤ chosen_costs s chosen a w k
    each k = at k (cases_eq k n)

    same : (d : ℕ) → client_cost a d (v.clients d) ≤ client_cost a d (w.clients d)
    same d = subst (λ (x : Client). client_cost a d x ≤ client_cost a d (w.clients d)) (sym (of.clients d)) (omega arith)

-- One client does something.

pub record OnlyClient (s : Setting) (c : ℕ) (w v : World) : Type 0 where
  pub known : HasClient s c
  pub others : (k : ℕ) → k ≢ c → v.clients k ≡ w.clients k
  pub nodes : (n : ℕ) → v.nodes n ≡ w.nodes n
  pub grows : Grows w v

-- what a client does makes no node cost more, and itself less
pub client-nearer : (s : Setting) (chosen : ℕ → Bool) (a : Want) (w v : World) (c : ℕ) → OnlyClient s c w v → ((n : ℕ) → costs_at s a v n ≤ costs_at s a w n) →
    client_cost a c (v.clients c) < client_cost a c (w.clients c) → cost s chosen a v < cost s chosen a w
client-nearer s chosen a w v c of le less =
    let nodes = total-le (chosen_costs s chosen a v) (chosen_costs s chosen a w) (node_numbers s) (λ n. if-le (chosen n) (costs_at s a v n) (costs_at s a w n) (le n)) in
    let clients = total-less (λ d. client_cost a d (v.clients d)) (λ d. client_cost a d (w.clients d)) (client_numbers s) each c (client-among s c of.known) less in
    omega (arith, nodes, clients)
  where
    at : (d : ℕ) → (d ≡ c) ⊎ (d ≢ c) → client_cost a d (v.clients d) ≤ client_cost a d (w.clients d)
    at d (inl e) = subst (λ j. client_cost a j (v.clients j) ≤ client_cost a j (w.clients j)) (sym e) (omega (arith, less))
    at d (inr apart) = subst (λ (x : Client). client_cost a d x ≤ client_cost a d (w.clients d)) (sym (of.others d apart)) (omega arith)

    each : (d : ℕ) → client_cost a d (v.clients d) ≤ client_cost a d (w.clients d)
    each d = at d (cases_eq d c)

-- what another client does costs no node anything
pub other-nearer : (s : Setting) (chosen : ℕ → Bool) (a : Want) (w v : World) (c : ℕ) → OnlyClient s c w v → c ≢ a.client → client_cost a c (v.clients c) < client_cost a c (w.clients c) → cost s chosen a v < cost s chosen a w
other-nearer s chosen a w v c of apart less =
    client-nearer s chosen a w v c of (λ n. same-node-le s a w v n (of.nodes n) (ap (λ (x : Client). x.phase) (of.others a.client (λ e. apart (sym e)))) of.grows) less

-- a client that hears makes no node cost more, and one less
pub vote-nearer : (s : Setting) (chosen : ℕ → Bool) (a : Want) (w v : World) (c n : ℕ) → OnlyClient s c w v → HasAnyNode s.ballots n → chosen n ≡ true → ((k : ℕ) → costs_at s a v k ≤ costs_at s a w k) →
    costs_at s a v n < costs_at s a w n → client_cost a c (v.clients c) ≤ client_cost a c (w.clients c) → cost s chosen a v < cost s chosen a w
vote-nearer s chosen a w v c n of known is le less own =
    let nodes = total-less (chosen_costs s chosen a v) (chosen_costs s chosen a w) (node_numbers s) (λ k. if-le (chosen k) (costs_at s a v k) (costs_at s a w k) (le k)) n (node-among s n known) (rw (is) less) in
    let clients = total-le (λ d. client_cost a d (v.clients d)) (λ d. client_cost a d (w.clients d)) (client_numbers s) each in
    omega (arith, nodes, clients)
  where
    at : (d : ℕ) → (d ≡ c) ⊎ (d ≢ c) → client_cost a d (v.clients d) ≤ client_cost a d (w.clients d)
    at d (inl e) = subst (λ j. client_cost a j (v.clients j) ≤ client_cost a j (w.clients j)) (sym e) own
    at d (inr apart) = subst (λ (x : Client). client_cost a d x ≤ client_cost a d (w.clients d)) (sym (of.others d apart)) (omega arith)

    each : (d : ℕ) → client_cost a d (v.clients d) ≤ client_cost a d (w.clients d)
    each d = at d (cases_eq d c)
