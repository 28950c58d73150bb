-- What one relation between two worlds carries over: whatever the event was, stations, clients and what
-- is said of all messages stay as they have to be, but for what the event's actor does itself.
use Rattle.std.proofs.Common.{◌≡◌, ◌≢◌, ℕ, ◌+◌, ◌<◌, ◌≤◌, ◌⊎◌, List, Option, Some, None, IfSome, sym, ◌∙◌, subst, inl, inr, arith}
use Rattle.lock_messages.specs.declared.tickets.Mode.{Mode}
use Rattle.lock_messages.specs.declared.tickets.Ticket.{Ticket}
use Rattle.lock_messages.specs.declared.messages.Message.{Message}
use Rattle.lock_messages.specs.declared.messages.Message.TheVariants.{Request, Release, Grant, Muddled, Soften}
use Rattle.lock_model.specs.declared.entries.Status.{Status}
use Rattle.lock_model.specs.declared.entries.Status.TheVariants.{Softened}
use Rattle.lock_model.specs.Ballots.{Ballot}
use Rattle.lock_model.specs.Stations.{Free, Has, Standing, Station, asked_mode}
use Rattle.lock_model.specs.Decisions.{Among}
use Rattle.world_model.specs.Worlds.{NodePhase, NodeDown, NodeIdle, Decided, Stored, Node, Present, ClientPhase, ClientDown, ClientIdle, Chosen, Asking, IsIn, Client, World, Setting, IfDecided, EachStation}
use Rattle.world_model.specs.Invariants.{IsPresentIn, IsPresent, IsUnsoftened, WasAsked, Owes, IsSafeStation, IsSafeNode, IsGranted, IsSafeTicket, IsSafeClient, IsSafe}

-- the ticket's attempt is one that the client has kept since
abbrev pub IsNewer : World → World → ℕ → Ticket → Type 0
IsNewer w v c t = ((w.clients c).kept < t.attempt) × (t.attempt ≤ (v.clients c).kept)

pub record Carries (w v : World) : Type 0 where
  pub kept : (c : ℕ) → (w.clients c).kept ≤ (v.clients c).kept
  pub present : (c : ℕ) (t : Ticket) → IsPresent v c t → IsPresent w c t ⊎ IsNewer w v c t
  pub unsoftened : (c a : ℕ) → IsUnsoftened v c a → IsUnsoftened w c a ⊎ ((w.clients c).kept < a)
  pub requested : (n : ℕ) (t : Ticket) → Among (Request n t) v.sent → Among (Request n t) w.sent ⊎ IsPresent w t.client t
  pub released : (n c a : ℕ) → Among (Release n c a) v.sent → Among (Release n c a) w.sent ⊎ ((a ≤ (v.clients c).kept) × ((t : Ticket) → IsPresent v c t → a < t.attempt))
  pub softening : (n c a : ℕ) → Among (Soften n c a) v.sent → Among (Soften n c a) w.sent ⊎ ((a ≤ (v.clients c).kept) × ¬ (IsUnsoftened v c a))
  pub muddled : (n c a : ℕ) → Among (Muddled n c a) v.sent → Among (Muddled n c a) w.sent
  pub grows : (m : Message) → Among m w.sent → Among m v.sent

pub self-le : (n : ℕ) → n ≤ n
self-le n = omega arith

-- the ticket is present, and wasn't before
abbrev Newly : World → World → Ticket → Type 0
Newly w v t = IsPresent v t.client t × IsNewer w v t.client t

-- a client has one present ticket at most
one-present : (p : ClientPhase) (t u : Ticket) → IsPresentIn t p → IsPresentIn u p → t ≡ u
one-present ClientDown t u h k = absurd h
one-present ClientIdle t u h k = absurd h
one-present (Chosen x place) t u h k = absurd h
one-present (Asking p) t u h k = sym h ∙ k
one-present (IsIn p) t u h k = sym h ∙ k

-- a ticket that was asked for was asked for before, or is newly present
pub asked-before : (w v : World) → Carries w v → (t : Ticket) → WasAsked v t → WasAsked w t ⊎ (IsPresent v t.client t × IsNewer w v t.client t)
asked-before w v carries t (inl h) = go (carries.requested h.0 t h.1)
  where
    go : Among (Request h.0 t) w.sent ⊎ IsPresent w t.client t → WasAsked w t ⊎ (IsPresent v t.client t × IsNewer w v t.client t)
    go (inl m) = inl (inl (h.0, m))
    go (inr p) = inl (inr p)
asked-before w v carries t (inr p) = go (carries.present t.client t p)
  where
    go : IsPresent w t.client t ⊎ IsNewer w v t.client t → WasAsked w t ⊎ (IsPresent v t.client t × IsNewer w v t.client t)
    go (inl q) = inl (inr q)
    go (inr new) = inr (p, new)

-- what a station owes a client

has-claim : (standing : Standing) (m : Mode) (x : List ℕ) (status : Status) → standing.claim ≡ Has m x status → standing.claim ≢ Free
has-claim standing m x status h e = let q : Has m x status ≡ Free = sym h ∙ e in cc

pub owes-still : (w v : World) → Carries w v → (c : ℕ) (standing : Standing) → Owes w c standing → Owes v c standing
owes-still w v carries c standing owes = record {
  within = record { floor = omega (arith, owes.within.floor, carries.kept c); live = λ apart. omega (arith, owes.within.live apart, carries.kept c) };
  present = λ t p. present t (carries.present c t p);
  agrees = λ t m x status claim asked client attempt. agrees t m x status claim client attempt (asked-before w v carries t asked);
  softened = λ m x claim un. softened m x claim (carries.unsoftened c (standing.floor + 1) un);
}
  where
    present : (t : Ticket) → IsPresent w c t ⊎ IsNewer w v c t → standing.floor < t.attempt
    present t (inl p) = owes.present t p
    present t (inr new) = omega (arith, owes.within.floor, new.0)

    agrees : (t : Ticket) (m : Mode) (x : List ℕ) (status : Status) → standing.claim ≡ Has m x status → t.client ≡ c → t.attempt ≡ standing.floor + 1 →
        WasAsked w t ⊎ (IsPresent v t.client t × IsNewer w v t.client t) → (asked_mode m status ≡ t.mode) × (x ≡ t.resource)
    agrees t m x status claim client attempt (inl asked) = owes.agrees t m x status claim asked client attempt
    agrees t m x status claim client attempt (inr new) =
        let above : (w.clients c).kept < t.attempt = subst (λ d. (w.clients d).kept < t.attempt) client new.1.0 in
        let below : standing.floor + 1 ≤ (w.clients c).kept = owes.within.live (has-claim standing m x status claim) in
        absurd (omega (arith, above, below, attempt))

    softened : (m : Mode) (x : List ℕ) → standing.claim ≡ Has m x Softened → IsUnsoftened w c (standing.floor + 1) ⊎ ((w.clients c).kept < standing.floor + 1) → ⊥
    softened m x claim (inl un) = owes.softened m x claim un
    softened m x claim (inr newer) = omega (arith, owes.within.live (has-claim standing m x Softened claim), newer)

-- no Grant of node n is new
abbrev pub NoNewGrant : ℕ → World → World → Type 0
NoNewGrant n w v = (t : Ticket) → Among (Grant n t) v.sent → Among (Grant n t) w.sent

pub station-still : (w v : World) → Carries w v → (n : ℕ) → NoNewGrant n w v → (s : Station) → IsSafeStation w n s → IsSafeStation v n s
station-still w v carries n none s safe = record {
  lawful = safe.lawful;
  caused = safe.caused;
  honors = λ t sent. safe.honors t (none t sent);
  owes = λ c. owes-still w v carries c (s.at c) (safe.owes c);
}

pub each-station : (P Q : Station → Type 0) → ((s : Station) → P s → Q s) → (v : Node) → EachStation P v → EachStation Q v
each-station P Q f v each = record { kept = f v.kept each.kept; tried = tried v.tried each.tried; decided = decided v.phase each.decided }
  where
    tried : (o : Option Station) → IfSome o P → IfSome o Q
    tried None h = tt
    tried (Some s) h = f s h

    decided : (p : NodePhase) → IfDecided p P → IfDecided p Q
    decided NodeDown h = tt
    decided NodeIdle h = tt
    decided (Decided s replies) h = f s h
    decided (Stored replies) h = tt

pub node-still : (w v : World) → Carries w v → (n : ℕ) → NoNewGrant n w v → (x : Node) → IsSafeNode w n x → IsSafeNode v n x
node-still w v carries n none x safe = record {
  stations = each-station (IsSafeStation w n) (IsSafeStation v n) (station-still w v carries n none) x safe.stations;
  phase = safe.phase;
}

pub granted-still : (b : List Ballot) (w v : World) → Carries w v → (c attempt : ℕ) (p : Present) → IsGranted b w c attempt p → IsGranted b v c attempt p
granted-still b w v carries c attempt p h = record { placed = h.placed; client = h.client; attempt_is = h.attempt_is; grants = λ n g. carries.grows (Grant n p.ticket) (h.grants n g) }

pub client-still : (b : List Ballot) (w v : World) → Carries w v → (c : ℕ) (k : Client) → IsSafeClient b w c k → IsSafeClient b v c k
client-still b w v carries c k safe = record { tried = safe.tried; ticket = ticket k.phase safe.ticket }
  where
    ticket : (p : ClientPhase) → IsSafeTicket b w c k.kept p → IsSafeTicket b v c k.kept p
    ticket ClientDown h = tt
    ticket ClientIdle h = tt
    ticket (Chosen t place) h = h
    ticket (Asking p) h = granted-still b w v carries c k.kept p h
    ticket (IsIn p) h = (granted-still b w v carries c k.kept p h.0, h.1)

-- what is said of all messages

pub all-safe : (s : Setting) (w v : World) → IsSafe s w → Carries w v → ((n : ℕ) → IsSafeNode v n (v.nodes n)) → ((c : ℕ) → IsSafeClient s.ballots v c (v.clients c)) → IsSafe s v
all-safe s w v safe carries nodes clients = record {
  nodes = nodes;
  clients = clients;
  one_ticket = λ t u h k client attempt. one t u client attempt (asked-before w v carries t h) (asked-before w v carries u k);
  asked = λ t h. asked t (asked-before w v carries t h);
  released = λ n c a m. released n c a (carries.released n c a m);
  over = λ n c a t m p. over n c a t p (carries.released n c a m) (carries.present c t p);
  softening = λ n c a m. softening n c a (carries.softening n c a m);
  softened = λ n c a m un. softened n c a un (carries.softening n c a m) (carries.unsoftened c a un);
  none_muddled = λ n c a m. safe.none_muddled n c a (carries.muddled n c a m);
}
  where
    one : (t u : Ticket) → t.client ≡ u.client → t.attempt ≡ u.attempt → WasAsked w t ⊎ Newly w v t → WasAsked w u ⊎ Newly w v u → t ≡ u
    one t u client attempt (inl h) (inl k) = safe.one_ticket t u h k client attempt
    one t u client attempt (inl h) (inr new) =
        let above : (w.clients t.client).kept < u.attempt = subst (λ c. (w.clients c).kept < u.attempt) (sym client) new.1.0 in
        absurd (omega (arith, above, safe.asked t h, attempt))
    one t u client attempt (inr new) (inl k) =
        let above : (w.clients u.client).kept < t.attempt = subst (λ c. (w.clients c).kept < t.attempt) client new.1.0 in
        absurd (omega (arith, above, safe.asked u k, attempt))
    one t u client attempt (inr new) (inr other) = one-present (v.clients t.client).phase t u new.0 (subst (λ c. IsPresent v c u) (sym client) other.0)

    asked : (t : Ticket) → WasAsked w t ⊎ Newly w v t → t.attempt ≤ (v.clients t.client).kept
    asked t (inl h) = omega (arith, safe.asked t h, carries.kept t.client)
    asked t (inr new) = new.1.1

    released : (n c a : ℕ) → Among (Release n c a) w.sent ⊎ ((a ≤ (v.clients c).kept) × ((t : Ticket) → IsPresent v c t → a < t.attempt)) → a ≤ (v.clients c).kept
    released n c a (inl m) = omega (arith, safe.released n c a m, carries.kept c)
    released n c a (inr new) = new.0

    over : (n c a : ℕ) (t : Ticket) → IsPresent v c t → Among (Release n c a) w.sent ⊎ ((a ≤ (v.clients c).kept) × ((t : Ticket) → IsPresent v c t → a < t.attempt)) → IsPresent w c t ⊎ IsNewer w v c t → a < t.attempt
    over n c a t p (inr new) other = new.1 t p
    over n c a t p (inl m) (inl q) = safe.over n c a t m q
    over n c a t p (inl m) (inr newer) = omega (arith, safe.released n c a m, newer.0)

    softening : (n c a : ℕ) → Among (Soften n c a) w.sent ⊎ ((a ≤ (v.clients c).kept) × ¬ (IsUnsoftened v c a)) → a ≤ (v.clients c).kept
    softening n c a (inl m) = omega (arith, safe.softening n c a m, carries.kept c)
    softening n c a (inr new) = new.0

    softened : (n c a : ℕ) → IsUnsoftened v c a → Among (Soften n c a) w.sent ⊎ ((a ≤ (v.clients c).kept) × ¬ (IsUnsoftened v c a)) → IsUnsoftened w c a ⊎ ((w.clients c).kept < a) → ⊥
    softened n c a un (inr new) other = new.1 un
    softened n c a un (inl m) (inl before) = safe.softened n c a m before
    softened n c a un (inl m) (inr newer) = omega (arith, safe.softening n c a m, newer)
