-- The two hands of the way in. A client that stands in the way is at rest and hands in its release: it stands
-- there no more. The client that wants in hands in its request where nobody stands in the way: it is granted.
use Rattle.std.proofs.Common.{◌≡◌, ℕ, ◌+◌, ◌-◌, ◌<◌, ◌≤◌, ◌==◌, ◌⊎◌, Bool, true, false, not, ◌&&◌, if◌then◌else◌, List, [], ◌∷◌, refl, sym, ◌∙◌, ap, subst, inl, inr, arith}
use Rattle.std.specs.List.{list_any}
use Rattle.std.specs.Str.{bytes_eq}
use Rattle.std.proofs.lemmas.Bool.{cases_lt, eq-eqb, and_from, and_parts, not-true}
use Rattle.std.proofs.lemmas.Slice.Eq.{bytes_eq-Decides}
use Rattle.lock_messages.specs.declared.ids.Actor.TheVariants as actor
use Rattle.lock_messages.specs.declared.tickets.Mode.{Mode}
use Rattle.lock_messages.specs.declared.tickets.Mode.TheVariants.{Read}
use Rattle.lock_messages.specs.declared.tickets.Ticket.{Ticket}
use Rattle.lock_messages.specs.declared.messages.Message.{Message}
use Rattle.lock_messages.specs.declared.messages.Message.TheVariants.{Request, Release, Grant, Busy}
use Rattle.lock_model.specs.declared.entries.Status.{Status}
use Rattle.lock_model.specs.declared.entries.Status.TheVariants.{Waiting, Holding, Softened}
use Rattle.lock_model.specs.Ballots.{HasAnyNode}
use Rattle.lock_model.specs.Stations.{Claim, Free, Has, Standing, Station, Cause, asked_mode}
use Rattle.lock_model.specs.ExactDecisions.{same_mode}
use Rattle.lock_model.specs.ExactHearing.{same_ticket}
use Rattle.lock_model.proofs.HearingFacts.{mode-to, ticket-self}
use Rattle.lock_model.specs.Decisions.{Among, Decides, IsNew, taken_up, IsAsked, over, muddled, held, waited, softened, granted, queued, IsReleased}
use Rattle.lock_model.proofs.EntryFacts.{any-of}
use Rattle.lock_model.proofs.GrantFacts.{only-reply}
use Rattle.world_model.specs.Worlds.{NodePhase, NodeIdle, ClientDown, ClientIdle, Asking, Present, World, Setting, HasClient, Tells}
use Rattle.world_model.specs.Invariants.{IsPresentIn, IsPresent, IsUnsoftenedIn, IsUnsoftened, Owes, IsSafeStation, IsGranted, IsSafeTicket, IsSafeClient, IsSafe}
use Rattle.world_model.specs.declared.ways.Move.TheVariants.{Hand}
use Rattle.world_model.specs.declared.ways.Want.{Want}
use Rattle.world_model.specs.Advice.{coming, coming_in, blocks, asks_for, is_grant, client_numbers}
use Rattle.world_model.specs.Ways.{IsUp}
use Rattle.world_model.proofs.StandingSteps.{new-cleared, settled-cleared}
use Rattle.world_model.proofs.FewClients.{released-decides, asked-decides}
use Rattle.world_model.specs.ExactWays.{total_over}
use Rattle.world_model.proofs.Costs.{block_cost, promises, vote_cost, ask_cost}
use Rattle.world_model.proofs.Nearer.{Fine, Goes, Nears, Grows, total-le, client-among, ask-le}
use Rattle.world_model.proofs.FineFacts.{stranger-stands, few-stand}
use Rattle.world_model.proofs.InTheWay.{blocks-has, free-blocks-not, less-blocks, stays, OthersLessen, settled-lessen, put-lessen, ended-free, total-drops, OnlyWaits, unblocked-free}
use Rattle.world_model.proofs.HandSteps.{says-release, says-request, tells-release, tells-request, Pays, hand-grows, hand-nearer, hand-goes, idle-asks}

-- each number is one of the setting's clients, or isn't
client-or-not : (s : Setting) (c : ℕ) → HasClient s c ⊎ ¬ (HasClient s c)
client-or-not s c = go (cases_lt c 1) (cases_lt s.clients c)
  where
    go : (c < 1) ⊎ (1 ≤ c) → (s.clients < c) ⊎ (c ≤ s.clients) → HasClient s c ⊎ ¬ (HasClient s c)
    go (inl low) above = inr (λ has. let z : ⊥ = omega (arith, low, has.0) in z)
    go (inr some) (inl past) = inr (λ has. let z : ⊥ = omega (arith, past, has.1) in z)
    go (inr some) (inr within) = inl (some, within)

-- the station that a node has kept is a safe one
kept-safe : (s : Setting) (w : World) (n : ℕ) → IsSafe s w → IsSafeStation w n (w.nodes n).kept
kept-safe s w n safe = let node = safe.nodes n in node.stations.kept

-- Who stands in the way goes.
module _ (s : Setting) (chosen : ℕ → Bool) (a : Want) (w : World) (n d : ℕ) (fine : Fine s chosen a w) (is : chosen n ≡ true) (node : HasAnyNode s.ballots n) (idle : (w.nodes n).phase ≡ NodeIdle) (coming_blocks : blocks a (coming (w.nodes n)) d ≡ true) (resting : (w.clients d).phase ≡ ClientIdle) where
  abbrev st : Station
  st = (w.nodes n).kept

  abbrev last : ℕ
  last = (w.clients d).kept

  pub blocking : blocks a st d ≡ true
  blocking = subst (λ t. blocks a t d ≡ true) (ap (coming_in st) idle) coming_blocks

  safe : IsSafeStation w n st
  safe = kept-safe s w n fine.safe

  -- its attempt is the last one
  pub below : (st.at d).floor + 1 ≤ last
  below = (safe.owes d).within.live (blocks-has a st d blocking)

  pub known : HasClient s d
  known = go (client-or-not s d)
    where
      go : HasClient s d ⊎ ¬ (HasClient s d) → HasClient s d
      go (inl has) = has
      go (inr nobody) = absurd (blocks-has a st d blocking (ap (λ (x : Standing). x.claim) (stranger-stands s chosen a w n st fine safe d nobody)))

  up : IsUp w (actor.Client d)
  up e = let z : ClientIdle ≡ ClientDown = sym resting ∙ e in cc

  away-goes : Goes s a w (Hand d n)
  away-goes =
      let r = released-decides s.clients n d last st (few-stand s chosen a w n st fine safe) safe.lawful known.1 in
      hand-goes s a w n d (Release n d last) r.0 r.1 node known idle (tells-release d n (w.clients d) resting (omega (arith, below))) (eq-eqb n n refl) r.2

  pub away-lessens : (u : Station) (replies : List Message) → IsReleased n st d last u replies → OthersLessen a.client st u
  away-lessens u replies r e apart = settled-lessen st r.ended u d last r.ends r.settles e

  -- the client itself blocks no more, and nobody else begins to
  pub away-drops : (u : Station) (replies : List Message) → IsReleased n st d last u replies → total_over (block_cost a u) (client_numbers s) + 4 ≤ total_over (block_cost a st) (client_numbers s)
  away-drops u replies r = total-drops (block_cost a u) (block_cost a st) (client_numbers s) (less-blocks a st u (away-lessens u replies r)) 4 d (client-among s d known) one
    where
      one : block_cost a u d + 4 ≤ block_cost a st d
      one =
          let free = ended-free st r.ended u d last (omega (arith, below)) r.ends r.settles in
          let now : block_cost a u d ≡ 0 = ap (λ b. if b then 4 else 0) (free-blocks-not a u d free) in
          let was : block_cost a st d ≡ 4 = ap (λ b. if b then 4 else 0) blocking in
          omega (arith, now, was)

  pub away-asks : (v : World) → Grows w v → (phase : NodePhase) → ask_cost a (w.clients a.client).phase v.sent n phase ≤ ask_cost a (w.clients a.client).phase w.sent n NodeIdle
  away-asks v grows phase = omega (arith, ask-le a (w.clients a.client).phase n w v phase grows, idle-asks a (w.clients a.client).phase w.sent n phase)

  away-pays : (v : World) → Grows w v → (u : Station) (replies : List Message) → IsReleased n st d last u replies → Pays s a n w v u replies
  away-pays v grows u replies r = record { less = away-lessens u replies r; cheaper = λ phase promised. omega (arith, away-drops u replies r, away-asks v grows phase) }

  away-nears : Nears s chosen a w (Hand d n)
  away-nears v h = hand-nearer s chosen a w n d v h fine is up idle (λ u replies decides. away-pays v (hand-grows s chosen a w n d v h) u replies (subst (λ m. Decides st m u replies) said decides))
    where
      said : h.message ≡ Release n d last
      said = says-release d n (w.clients d) h.message (subst (λ k. Tells d n k (h.message ∷ [])) (sym h.said.was) h.tells) resting

pub hand-away : (s : Setting) (chosen : ℕ → Bool) (a : Want) (w : World) (n d : ℕ) → Fine s chosen a w → chosen n ≡ true → HasAnyNode s.ballots n → (w.nodes n).phase ≡ NodeIdle →
    blocks a (coming (w.nodes n)) d ≡ true → (w.clients d).phase ≡ ClientIdle → Goes s a w (Hand d n) × Nears s chosen a w (Hand d n)
hand-away s chosen a w n d fine is node idle blocking resting = (away-goes s chosen a w n d fine is node idle blocking resting, away-nears s chosen a w n d fine is node idle blocking resting)

-- The Grant of a ticket is found among what is said.

grant-found : (n : ℕ) (t : Ticket) (said : List Message) → Among (Grant n t) said → list_any (is_grant n t) said ≡ true
grant-found n t said m = any-of (is_grant n t) said (Grant n t) m (and_from (n == n) (same_ticket t t) (eq-eqb n n refl) (ticket-self t))

-- what asking costs where nothing is granted, and where the Grant is promised
ungranted-cost : (c e : Bool) → c ≡ false → e ≡ false → 7 ≤ (if c then 0 else (if e then 1 else 7))
ungranted-cost true e h k = absurd (let z : true ≡ false = h in cc)
ungranted-cost false true h k = absurd (let z : true ≡ false = k in cc)
ungranted-cost false false h k = omega arith

promised-cost : (c e f : Bool) → f ≡ true → (if c then 0 else (if e then 1 else (if f then 2 else 7))) ≤ 2
promised-cost true e f h = omega arith
promised-cost false true f h = omega arith
promised-cost false false true h = omega arith
promised-cost false false false h = absurd (let z : false ≡ true = h in cc)

-- The client that wants in is granted, where nobody stands in the way.
module _ (s : Setting) (chosen : ℕ → Bool) (a : Want) (w : World) (n : ℕ) (p : Present) (fine : Fine s chosen a w) (is : chosen n ≡ true) (node : HasAnyNode s.ballots n) (idle : (w.nodes n).phase ≡ NodeIdle) (none_blocks : (d : ℕ) → blocks a (coming (w.nodes n)) d ≡ false) (asking : (w.clients a.client).phase ≡ Asking p) (wanted : asks_for a p ≡ true) where
  abbrev t : Ticket
  t = p.ticket

  abbrev here : Station
  here = (w.nodes n).kept

  clear : (d : ℕ) → blocks a here d ≡ false
  clear d = subst (λ u. blocks a u d ≡ false) (ap (coming_in here) idle) (none_blocks d)

  -- what its ticket is like

  abbrev AsWanted : Type 0
  AsWanted = (p.softened ≡ false) × (t.mode ≡ a.mode) × (t.resource ≡ a.resource)

  as-wanted : AsWanted
  as-wanted =
      let first = and_parts (not p.softened) (same_mode t.mode a.mode && (bytes_eq t.resource a.resource && (p.place == a.place))) wanted in
      let second = and_parts (same_mode t.mode a.mode) (bytes_eq t.resource a.resource && (p.place == a.place)) first.1 in
      let third = and_parts (bytes_eq t.resource a.resource) (p.place == a.place) second.1 in
      (not-true p.softened first.0, mode-to t.mode a.mode second.0, (bytes_eq-Decides t.resource a.resource).0 third.0)

  mine : t.client ≡ a.client
  mine =
      let client : IsSafeClient s.ballots w a.client (w.clients a.client) = fine.safe.clients a.client in
      let own : IsGranted s.ballots w a.client (w.clients a.client).kept p = subst (IsSafeTicket s.ballots w a.client (w.clients a.client).kept) asking client.ticket in
      own.client

  present : IsPresent w t.client t
  present = subst (λ c. IsPresent w c t) (sym mine) (subst (IsPresentIn t) (sym asking) refl)

  unsoftened : IsUnsoftened w t.client t.attempt
  unsoftened = subst (λ c. IsUnsoftened w c t.attempt) (sym mine) (subst (IsUnsoftenedIn t.attempt) (sym asking) (refl, as-wanted.0))

  -- and what the station knows of it

  owes : Owes w t.client (here.at t.client)
  owes = (kept-safe s w n fine.safe).owes t.client

  agrees : (m : Mode) (x : List ℕ) (status : Status) → (here.at t.client).claim ≡ Has m x status → t.attempt ≡ (here.at t.client).floor + 1 → (asked_mode m status ≡ t.mode) × (x ≡ t.resource)
  agrees m x status claim at = owes.agrees t m x status claim (inr present) refl at

  never-soft : (m : Mode) (x : List ℕ) → (here.at t.client).claim ≡ Has m x Softened → t.attempt ≡ (here.at t.client).floor + 1 → ⊥
  never-soft m x claim at = owes.softened m x claim (subst (IsUnsoftened w t.client) at unsoftened)

  uncaused : (u : Station) → OthersLessen a.client here u → OnlyWaits a (u.at t.client).claim → Cause u t.mode t.resource → ⊥
  uncaused u less only cause =
      unblocked-free a here clear u less (subst (λ c. OnlyWaits a (u.at c).claim) mine only)
      (subst (λ m. Cause u m a.resource) as-wanted.1 (subst (λ x. Cause u t.mode x) as-wanted.2 cause))

  -- a claim that waits is the ticket's, and there may be none
  waits-only : (claim : Claim) → claim ≡ Has t.mode t.resource Waiting → OnlyWaits a claim
  waits-only claim e m x status k =
      let q : Has t.mode t.resource Waiting ≡ Has m x status = sym e ∙ k in
      let mode : m ≡ t.mode = cc in
      let waits : status ≡ Waiting = cc in
      (mode ∙ as-wanted.1, waits)

  free-only : (claim : Claim) → claim ≡ Free → OnlyWaits a claim
  free-only claim e m x status k = absurd (let z : Free ≡ Has m x status = sym e ∙ k in cc)

  -- Whatever the node decides, it grants: the attempt is present, so it is not ended; its claim is that of its
  -- ticket, and not softened; and there is no cause to wait.
  abbrev pub Wins : Station → List Message → Type 0
  Wins u replies = OthersLessen a.client here u × Among (Grant n t) replies × ((u.at t.client).claim ≡ Has t.mode t.resource Holding)

  pub wins : (u : Station) (replies : List Message) → IsAsked n here t u replies → Wins u replies
  wins u replies (over below same only) = absurd (omega (arith, owes.present t present, below))
  wins u replies (muddled m x status at claim (inl differs) same only) = absurd (differs (agrees m x status claim at).0)
  wins u replies (muddled m x status at claim (inr differs) same only) = absurd (differs (agrees m x status claim at).1)
  wins u replies (held at claim same only) = (subst (OthersLessen a.client here) (sym same) (λ d apart. stays refl), (only (Grant n t)).1 refl, ap (λ (x : Station). (x.at t.client).claim) same ∙ claim)
  wins u replies (waited at claim same only) =
      absurd (uncaused here (λ d apart. stays refl) (waits-only (here.at t.client).claim claim) ((kept-safe s w n fine.safe).caused.cause t.client t.mode t.resource claim))
  wins u replies (softened at mode claim same only) = absurd (never-soft Read t.resource claim at)
  wins u replies (granted new ended settled ends settles free puts are) = (
    subst (λ c. OthersLessen c here u) mine (put-lessen here settled u t.client (taken_up t Holding) (settled-lessen here ended settled t.client (t.attempt - 1) ends settles) puts),
    (are (Grant n t)).1 (inl refl),
    ap (λ (x : Standing). x.claim) puts.here,
  )
  wins u replies (queued new ended settled ends settles why puts are) =
      let is_cleared = settled-cleared t (ended.at t.client) (settled.at t.client) (ends.2.here ∙ new-cleared t (here.at t.client) ends.0 new ends.1) (settles.floors t.client) (settles.claims t.client) in
      absurd (uncaused settled (λ d apart. settled-lessen here ended settled t.client (t.attempt - 1) ends settles d) (free-only (settled.at t.client).claim (ap (λ (x : Standing). x.claim) is_cleared)) why)

  -- and it does decide
  abbrev Decision : Type 0
  Decision = (u : Station) × (replies : List Message) × IsAsked n here t u replies

  new-decision : IsNew (here.at t.client) t.attempt → Decision
  new-decision new =
      let safe = kept-safe s w n fine.safe in
      asked-decides s.clients n here t (few-stand s chosen a w n here fine safe) safe.lawful (subst (λ c. c ≤ s.clients) (sym mine) fine.possible.client.1) new

  old-decision : (m : Mode) (x : List ℕ) (status : Status) → (here.at t.client).claim ≡ Has m x status → t.attempt ≡ (here.at t.client).floor + 1 → asked_mode m status ≡ t.mode → x ≡ t.resource → Decision
  old-decision m x Waiting claim at mode resource =
      (here, Busy n t ∷ [], waited at (claim ∙ ap (λ k. Has k x Waiting) mode ∙ ap (λ y. Has t.mode y Waiting) resource) refl (only-reply (Busy n t)))
  old-decision m x Holding claim at mode resource =
      (here, Grant n t ∷ [], held at (claim ∙ ap (λ k. Has k x Holding) mode ∙ ap (λ y. Has t.mode y Holding) resource) refl (only-reply (Grant n t)))
  old-decision m x Softened claim at mode resource = absurd (never-soft m x claim at)

  decision : Decision
  decision = go (cases_lt ((here.at t.client).floor + 1) t.attempt)
    where
      by-claim : (claim : Claim) → (here.at t.client).claim ≡ claim → t.attempt ≡ (here.at t.client).floor + 1 → Decision
      by-claim Free claim at = new-decision (inr (at, claim))
      by-claim (Has m x status) claim at = let so = agrees m x status claim at in old-decision m x status claim at so.0 so.1

      go : ((here.at t.client).floor + 1 < t.attempt) ⊎ (t.attempt ≤ (here.at t.client).floor + 1) → Decision
      go (inl later) = new-decision (inl later)
      go (inr within) = by-claim (here.at t.client).claim refl (omega (arith, within, owes.present t present))

  in-goes : Goes s a w (Hand a.client n)
  in-goes = hand-goes s a w n a.client (Request n t) decision.0 decision.1 node fine.possible.client idle (tells-request a.client n (w.clients a.client) p asking) (eq-eqb n n refl) decision.2

  -- the vote is owed before, and no more once its Grant is promised
  pub in-before : p.granted n ≡ false → list_any (is_grant n t) w.sent ≡ false → 7 ≤ ask_cost a (w.clients a.client).phase w.sent n NodeIdle
  in-before ungranted unsent =
      subst (λ k. 7 ≤ ask_cost a k w.sent n NodeIdle) (sym asking)
      (subst (λ b. 7 ≤ (if b then (if p.granted n then 0 else (if list_any (is_grant n t) w.sent then 1 else 7)) else 7)) (sym wanted)
      (ungranted-cost (p.granted n) (list_any (is_grant n t) w.sent) ungranted unsent))

  pub in-after : (v : World) (u : Station) (replies : List Message) → Wins u replies → (phase : NodePhase) → promises n t phase ≡ list_any (is_grant n t) replies → ask_cost a (w.clients a.client).phase v.sent n phase ≤ 2
  in-after v u replies won phase promised =
      subst (λ k. ask_cost a k v.sent n phase ≤ 2) (sym asking)
      (subst (λ b. (if b then (if p.granted n then 0 else vote_cost n t v.sent phase) else 7) ≤ 2) (sym wanted)
      (promised-cost (p.granted n) (list_any (is_grant n t) v.sent) (promises n t phase) (promised ∙ grant-found n t replies won.1)))

  pub in-blocks : (u : Station) (replies : List Message) → Wins u replies → total_over (block_cost a u) (client_numbers s) ≤ total_over (block_cost a here) (client_numbers s)
  in-blocks u replies won = total-le (block_cost a u) (block_cost a here) (client_numbers s) (less-blocks a here u won.0)

  in-pays : (v : World) → p.granted n ≡ false → list_any (is_grant n t) w.sent ≡ false → (u : Station) (replies : List Message) → IsAsked n here t u replies → Pays s a n w v u replies
  in-pays v ungranted unsent u replies h =
      let won = wins u replies h in
      record { less = won.0; cheaper = λ phase promised. omega (arith, in-blocks u replies won, in-before ungranted unsent, in-after v u replies won phase (promised t)) }

  in-nears : p.granted n ≡ false → list_any (is_grant n t) w.sent ≡ false → Nears s chosen a w (Hand a.client n)
  in-nears ungranted unsent v h = hand-nearer s chosen a w n a.client v h fine is up idle (λ u replies decides. in-pays v ungranted unsent u replies (subst (λ m. Decides here m u replies) said decides))
    where
      said : h.message ≡ Request n t
      said = says-request a.client n (w.clients a.client) h.message p (subst (λ k. Tells a.client n k (h.message ∷ [])) (sym h.said.was) h.tells) asking

      up : IsUp w (actor.Client a.client)
      up e = let z : Asking p ≡ ClientDown = sym asking ∙ e in cc

pub hand-in : (s : Setting) (chosen : ℕ → Bool) (a : Want) (w : World) (n : ℕ) (p : Present) → Fine s chosen a w → chosen n ≡ true → HasAnyNode s.ballots n → (w.nodes n).phase ≡ NodeIdle →
    ((d : ℕ) → blocks a (coming (w.nodes n)) d ≡ false) → (w.clients a.client).phase ≡ Asking p → asks_for a p ≡ true → p.granted n ≡ false → list_any (is_grant n p.ticket) w.sent ≡ false →
    Goes s a w (Hand a.client n) × Nears s chosen a w (Hand a.client n)
hand-in s chosen a w n p fine is node idle none asking wanted ungranted unsent =
    (in-goes s chosen a w n p fine is node idle none asking wanted, in-nears s chosen a w n p fine is node idle none asking wanted ungranted unsent)
