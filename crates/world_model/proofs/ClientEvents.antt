-- What a client does by itself keeps the world safe: it owes its own attempts, its ticket and its votes.
use Rattle.std.proofs.Common.{◌≡◌, ◌≢◌, ℕ, ◌+◌, ◌<◌, ◌≤◌, ◌==◌, ◌||◌, ◌⊎◌, Bool, true, false, cond, List, [], refl, sym, ◌∙◌, ap, subst, inl, inr, arith, zero-le}
use Rattle.std.proofs.lemmas.List.Sums.{sum_by-le-sum_by}
use Rattle.std.proofs.lemmas.Bool.{cases_eq, or_cases, eqb-true}
use Rattle.lock_messages.specs.declared.tickets.Mode.{Mode}
use Rattle.lock_messages.specs.declared.tickets.Ticket.{Ticket}
use Rattle.lock_messages.specs.declared.messages.Message.{Message}
use Rattle.lock_messages.specs.declared.messages.Message.TheVariants.{Request, Release, Grant, Muddled, Soften}
use Rattle.lock_model.specs.declared.hearing.Heard.TheVariants as heard
use Rattle.lock_model.specs.Ballots.{Ballot, IsEnough, ballot_at, node_count, votes_at, votes_of, nodes}
use Rattle.lock_model.specs.Decisions.{Among}
use Rattle.lock_model.specs.Hearing.{HearsOfTicket}
use Rattle.world_model.specs.declared.events.Age.{Age}
use Rattle.world_model.specs.declared.events.Age.TheVariants.{Old, New}
use Rattle.world_model.specs.Worlds.{Present, Client, World, Setting, OfClient, ByClient, Begins, begins, TriesAttempt, tries_attempt, KeepsAttempt, keeps_attempt, grants_from, gained, Hears, counts, counts_inside, passes, passes_inside, passes_softened, passes_idle, passes_chosen, Enters, enters, Leaves, gives_up, leaves, Softens, softens, ClientFalls, client_falls, ClientRises, client_rises_old, client_rises_new}
use Rattle.world_model.specs.Invariants.{IsPresentIn, IsPresent, IsUnsoftenedIn, IsUnsoftened, IsGranted, IsSafeClient, IsSafeNode, IsSafe}
use Rattle.world_model.proofs.Carried.{self-le, IsNewer, Carries, node-still, client-still, all-safe}

-- a present ticket after is one before, or is of an attempt that was kept since
abbrev IsSameOrNewer : Client → Client → Ticket → Type 0
IsSameOrNewer before after t = IsPresentIn t before.phase ⊎ ((before.kept < t.attempt) × (t.attempt ≤ after.kept))

abbrev SameOrNewer : World → World → ℕ → Ticket → Type 0
SameOrNewer w v d t = IsPresent w d t ⊎ IsNewer w v d t

-- how a client may go on in the world w
pub record GoesSafely (b : List Ballot) (w : World) (c : ℕ) (before after : Client) : Type 0 where
  pub kept : before.kept ≤ after.kept
  pub present : (t : Ticket) → IsPresentIn t after.phase → IsSameOrNewer before after t
  pub unsoftened : (a : ℕ) → IsUnsoftenedIn a after.phase → IsUnsoftenedIn a before.phase ⊎ (before.kept < a)
  pub safe : IsSafeClient b w c after

silent-keeps : (s : Setting) (c : ℕ) (w : World) (before after : Client) (v : World) → IsSafe s w → OfClient s c w before after [] v → (IsSafeClient s.ballots w c before → GoesSafely s.ballots w c before after) → IsSafe s v
silent-keeps s c w before after v safe of own = all-safe s w v safe carries nodes_safe (λ d. client_safe d (cases_eq d c))
  where
    goes : GoesSafely s.ballots w c before after
    goes = own (subst (IsSafeClient s.ballots w c) of.was (safe.clients c))

    old : (x : Message) → Among x v.sent → Among x w.sent
    old x h = go ((of.sends x).0 h)
      where
        go : Among x w.sent ⊎ Among x [] → Among x w.sent
        go (inl k) = k
        go (inr k) = absurd k

    kept : (d : ℕ) → (d ≡ c) ⊎ (d ≢ c) → (w.clients d).kept ≤ (v.clients d).kept
    kept d (inl e) =
        subst (λ x. (w.clients x).kept ≤ (v.clients x).kept) (sym e)
        (subst (λ (k : Client). k.kept ≤ (v.clients c).kept) (sym of.was) (subst (λ (k : Client). before.kept ≤ k.kept) (sym of.is) goes.kept))
    kept d (inr apart) = subst (λ (k : Client). (w.clients d).kept ≤ k.kept) (sym (of.others d apart)) (self-le (w.clients d).kept)

    present-here : (t : Ticket) → IsSameOrNewer before after t → SameOrNewer w v c t
    present-here t (inl p) = inl (subst (λ (k : Client). IsPresentIn t k.phase) (sym of.was) p)
    present-here t (inr new) = inr (subst (λ (k : Client). k.kept < t.attempt) (sym of.was) new.0, subst (λ (k : Client). t.attempt ≤ k.kept) (sym of.is) new.1)

    present : (d : ℕ) (t : Ticket) → (d ≡ c) ⊎ (d ≢ c) → IsPresent v d t → SameOrNewer w v d t
    present d t (inl e) p =
        subst (λ x. SameOrNewer w v x t) (sym e) (present-here t (goes.present t (subst (λ (k : Client). IsPresentIn t k.phase) of.is (subst (λ x. IsPresent v x t) e p))))
    present d t (inr apart) p = inl (subst (λ (k : Client). IsPresentIn t k.phase) (of.others d apart) p)

    unsoftened : (d a : ℕ) → (d ≡ c) ⊎ (d ≢ c) → IsUnsoftened v d a → IsUnsoftened w d a ⊎ ((w.clients d).kept < a)
    unsoftened d a (inl e) un =
        subst (λ x. IsUnsoftened w x a ⊎ ((w.clients x).kept < a)) (sym e)
        (subst (λ (k : Client). IsUnsoftenedIn a k.phase ⊎ (k.kept < a)) (sym of.was) (goes.unsoftened a (subst (λ (k : Client). IsUnsoftenedIn a k.phase) of.is (subst (λ x. IsUnsoftened v x a) e un))))
    unsoftened d a (inr apart) un = inl (subst (λ (k : Client). IsUnsoftenedIn a k.phase) (of.others d apart) un)

    carries : Carries w v
    carries = record {
      kept = λ d. kept d (cases_eq d c);
      present = λ d t p. present d t (cases_eq d c) p;
      unsoftened = λ d a un. unsoftened d a (cases_eq d c) un;
      requested = λ n t h. inl (old (Request n t) h);
      released = λ n d a h. inl (old (Release n d a) h);
      softening = λ n d a h. inl (old (Soften n d a) h);
      muddled = λ n d a h. old (Muddled n d a) h;
      grows = λ x h. (of.sends x).1 (inl h);
    }

    nodes_safe : (n : ℕ) → IsSafeNode v n (v.nodes n)
    nodes_safe n = subst (IsSafeNode v n) (sym (of.nodes n)) (node-still w v carries n (λ t h. old (Grant n t) h) (w.nodes n) (safe.nodes n))

    client_safe : (d : ℕ) → (d ≡ c) ⊎ (d ≢ c) → IsSafeClient s.ballots v d (v.clients d)
    client_safe d (inl e) = subst (λ x. IsSafeClient s.ballots v x (v.clients x)) (sym e) (subst (IsSafeClient s.ballots v c) (sym of.is) (client-still s.ballots w v carries c after goes.safe))
    client_safe d (inr apart) = subst (IsSafeClient s.ballots v d) (sym (of.others d apart)) (client-still s.ballots w v carries d (w.clients d) (safe.clients d))

-- the events of a client; most leave the kept attempt as it is, and no ticket that was not there before

begins-safe : (b : List Ballot) (w : World) (c : ℕ) (m : Mode) (x : List ℕ) (place : ℕ) (before after : Client) → Begins b c m x place before after → IsSafeClient b w c before → GoesSafely b w c before after
begins-safe b w c m x place before after (begins kept tried below placed) safe = record {
  kept = self-le kept;
  present = λ t p. absurd p;
  unsoftened = λ a un. absurd un;
  safe = record { tried = safe.tried; ticket = (refl, refl, placed) };
}

tries-safe : (b : List Ballot) (w : World) (c : ℕ) (before after : Client) → TriesAttempt before after → IsSafeClient b w c before → GoesSafely b w c before after
tries-safe b w c before after (tries_attempt kept t place) safe = record {
  kept = self-le kept;
  present = λ u p. absurd p;
  unsoftened = λ a un. absurd un;
  safe = record { tried = safe.ticket.1; ticket = safe.ticket };
}

keeps-safe : (b : List Ballot) (w : World) (c : ℕ) (before after : Client) → KeepsAttempt before after → IsSafeClient b w c before → GoesSafely b w c before after
keeps-safe b w c before after (keeps_attempt kept a t place) safe = record {
  kept = omega (arith, safe.tried);
  present = λ u p. inr (newer u p);
  unsoftened = λ b un. inr (subst (λ x. kept < x) un.0 (newer t refl).0);
  safe = record { tried = tt; ticket = record { placed = safe.ticket.2; client = safe.ticket.0; attempt_is = safe.ticket.1 ∙ sym safe.tried; grants = λ n g. absurd (let q : false ≡ true = g in cc) } };
}
  where
    newer : (u : Ticket) → t ≡ u → (kept < u.attempt) × (u.attempt ≤ a)
    newer u p =
        let attempt : u.attempt ≡ kept + 1 = ap (λ (y : Ticket). y.attempt) (sym p) ∙ safe.ticket.1 in
        let tried : a ≡ kept + 1 = safe.tried in
        (omega (arith, attempt), omega (arith, attempt, tried))

-- a vote that counts is one that was sent
gained-granted : (b : List Ballot) (w : World) (c attempt : ℕ) (m : Message) (p : Present) → Among m w.sent → HearsOfTicket (node_count b) p.ticket p.granted m heard.Counted → IsGranted b w c attempt p →
    IsGranted b w c attempt (gained m p)
gained-granted b w c attempt m p sent hears h = record { placed = h.placed; client = h.client; attempt_is = h.attempt_is; grants = grants }
  where
    n : ℕ
    n = hears.0

    is : m ≡ Grant n p.ticket
    is = hears.2.1

    go : (k : ℕ) → ((n == k) ≡ true) ⊎ (p.granted k ≡ true) → Among (Grant k p.ticket) w.sent
    go k (inl e) = subst (λ j. Among (Grant j p.ticket) w.sent) (eqb-true n k e) (subst (λ x. Among x w.sent) is sent)
    go k (inr g) = h.grants k g

    grants : (k : ℕ) → (gained m p).granted k ≡ true → Among (Grant k p.ticket) w.sent
    grants k g = go k (or_cases (n == k) (p.granted k) (subst (λ x. (gained x p).granted k ≡ true) is g))

-- more nodes have no fewer votes
no-fewer : (some more : Bool) (votes : ℕ) → (some ≡ true → more ≡ true) → cond some votes 0 ≤ cond more votes 0
no-fewer true more votes within = let same : cond more votes 0 ≡ votes = ap (λ c. cond c votes 0) (within refl) in omega (arith, same)
no-fewer false more votes within = zero-le

gained-more : (m : Message) (p : Present) (n : ℕ) → p.granted n ≡ true → (gained m p).granted n ≡ true
gained-more m p n g = ap (λ b. grants_from m n || b) g ∙ or-true (grants_from m n)
  where
    or-true : (b : Bool) → (b || true) ≡ true
    or-true true = refl
    or-true false = refl

gained-enough : (b : Ballot) (mode : Mode) (m : Message) (p : Present) → IsEnough b mode p.granted → IsEnough b mode (gained m p).granted
gained-enough b mode m p enough =
    let more : votes_of b p.granted ≤ votes_of b (gained m p).granted =
    sum_by-le-sum_by (λ n. cond (p.granted n) (votes_at b n) 0) (λ n. cond ((gained m p).granted n) (votes_at b n) 0) (nodes b) (λ n. no-fewer (p.granted n) ((gained m p).granted n) (votes_at b n) (gained-more m p n)) in
    omega (arith, enough, more)

hears-safe : (b : List Ballot) (w : World) (c : ℕ) (m : Message) (before after : Client) → Among m w.sent → Hears b c m before after → IsSafeClient b w c before → GoesSafely b w c before after
hears-safe b w c m before after sent (counts kept tried p h) safe = record {
  kept = self-le kept;
  present = λ u h. inl h;
  unsoftened = λ a un. inl un;
  safe = record { tried = safe.tried; ticket = gained-granted b w c kept m p sent h safe.ticket };
}
hears-safe b w c m before after sent (counts_inside kept tried p whole h) safe = record {
  kept = self-le kept;
  present = λ u h. inl h;
  unsoftened = λ a un. inl un;
  safe = record { tried = safe.tried; ticket = (gained-granted b w c kept m p sent h safe.ticket.0, gained-enough (ballot_at b p.place) p.ticket.mode m p safe.ticket.1) };
}
hears-safe b w c m before after sent (passes kept tried p h hears apart) safe = record { kept = self-le kept; present = λ u h. inl h; unsoftened = λ a un. inl un; safe = safe }
hears-safe b w c m before after sent (passes_inside kept tried p h whole hears apart) safe = record { kept = self-le kept; present = λ u h. inl h; unsoftened = λ a un. inl un; safe = safe }
hears-safe b w c m before after sent (passes_softened kept tried p h softened hears) safe = record { kept = self-le kept; present = λ u h. inl h; unsoftened = λ a un. inl un; safe = safe }
hears-safe b w c m before after sent (passes_idle kept tried h hears) safe = record { kept = self-le kept; present = λ u p. inl p; unsoftened = λ a un. inl un; safe = safe }
hears-safe b w c m before after sent (passes_chosen kept tried t place) safe = record { kept = self-le kept; present = λ u p. inl p; unsoftened = λ a un. inl un; safe = safe }

enters-safe : (b : List Ballot) (w : World) (c : ℕ) (before after : Client) → Enters b before after → IsSafeClient b w c before → GoesSafely b w c before after
enters-safe b w c before after (enters kept tried p enough) safe = record {
  kept = self-le kept;
  present = λ u h. inl h;
  unsoftened = λ a un. inl un;
  safe = record { tried = safe.tried; ticket = (safe.ticket, enough) };
}

leaves-safe : (b : List Ballot) (w : World) (c : ℕ) (before after : Client) → Leaves before after → IsSafeClient b w c before → GoesSafely b w c before after
leaves-safe b w c before after (gives_up kept tried p) safe = record { kept = self-le kept; present = λ u h. absurd h; unsoftened = λ a un. absurd un; safe = record { tried = safe.tried; ticket = tt } }
leaves-safe b w c before after (leaves kept tried p) safe = record { kept = self-le kept; present = λ u h. absurd h; unsoftened = λ a un. absurd un; safe = record { tried = safe.tried; ticket = tt } }

-- the votes stay as they are, and so does the ticket that was asked with
softens-safe : (b : List Ballot) (w : World) (c : ℕ) (before after : Client) → Softens before after → IsSafeClient b w c before → GoesSafely b w c before after
softens-safe b w c before after (softens kept tried p writes whole) safe = record {
  kept = self-le kept;
  present = λ u h. inl h;
  unsoftened = λ a un. absurd (let q : true ≡ false = un.1 in cc);
  safe = record { tried = safe.tried; ticket = (record { placed = granted.placed; client = granted.client; attempt_is = granted.attempt_is; grants = granted.grants }, safe.ticket.1) };
}
  where
    granted : IsGranted b w c kept p
    granted = safe.ticket.0

falls-safe : (b : List Ballot) (w : World) (c : ℕ) (before after : Client) → ClientFalls before after → IsSafeClient b w c before → GoesSafely b w c before after
falls-safe b w c before after (client_falls kept tried phase up) safe = record { kept = self-le kept; present = λ u p. absurd p; unsoftened = λ a un. absurd un; safe = record { tried = safe.tried; ticket = tt } }

rises-safe : (b : List Ballot) (w : World) (c : ℕ) (age : Age) (before after : Client) → ClientRises age before after → IsSafeClient b w c before → GoesSafely b w c before after
rises-safe b w c Old before after (client_rises_old kept tried) safe = record { kept = self-le kept; present = λ u p. absurd p; unsoftened = λ a un. absurd un; safe = record { tried = tt; ticket = tt } }
rises-safe b w c New before after (client_rises_new kept a) safe = record { kept = omega (arith, safe.tried); present = λ u p. absurd p; unsoftened = λ a un. absurd un; safe = record { tried = tt; ticket = tt } }

-- the whole, by the relation

by-client-keeps : (s : Setting) (c : ℕ) (R : Client → Client → Type 0) (w v : World) → IsSafe s w → ByClient s w v c R → ((before after : Client) → R before after → IsSafeClient s.ballots w c before → GoesSafely s.ballots w c before after) → IsSafe s v
by-client-keeps s c R w v safe h own = silent-keeps s c w h.0 h.1 v safe h.3 (own h.0 h.1 h.2)

pub begins-keeps : (s : Setting) (c : ℕ) (m : Mode) (x : List ℕ) (place : ℕ) (w v : World) → IsSafe s w → ByClient s w v c (Begins s.ballots c m x place) → IsSafe s v
begins-keeps s c m x place w v safe h = by-client-keeps s c (Begins s.ballots c m x place) w v safe h (begins-safe s.ballots w c m x place)

pub tries-keeps : (s : Setting) (c : ℕ) (w v : World) → IsSafe s w → ByClient s w v c TriesAttempt → IsSafe s v
tries-keeps s c w v safe h = by-client-keeps s c TriesAttempt w v safe h (tries-safe s.ballots w c)

pub keeps-keeps : (s : Setting) (c : ℕ) (w v : World) → IsSafe s w → ByClient s w v c KeepsAttempt → IsSafe s v
keeps-keeps s c w v safe h = by-client-keeps s c KeepsAttempt w v safe h (keeps-safe s.ballots w c)

pub hears-keeps : (s : Setting) (c : ℕ) (m : Message) (w v : World) → IsSafe s w → Among m w.sent → ByClient s w v c (Hears s.ballots c m) → IsSafe s v
hears-keeps s c m w v safe sent h = by-client-keeps s c (Hears s.ballots c m) w v safe h (λ before after r ok. hears-safe s.ballots w c m before after sent r ok)

pub enters-keeps : (s : Setting) (c : ℕ) (w v : World) → IsSafe s w → ByClient s w v c (Enters s.ballots) → IsSafe s v
enters-keeps s c w v safe h = by-client-keeps s c (Enters s.ballots) w v safe h (enters-safe s.ballots w c)

pub leaves-keeps : (s : Setting) (c : ℕ) (w v : World) → IsSafe s w → ByClient s w v c Leaves → IsSafe s v
leaves-keeps s c w v safe h = by-client-keeps s c Leaves w v safe h (leaves-safe s.ballots w c)

pub softens-keeps : (s : Setting) (c : ℕ) (w v : World) → IsSafe s w → ByClient s w v c Softens → IsSafe s v
softens-keeps s c w v safe h = by-client-keeps s c Softens w v safe h (softens-safe s.ballots w c)

pub falls-keeps : (s : Setting) (c : ℕ) (w v : World) → IsSafe s w → ByClient s w v c ClientFalls → IsSafe s v
falls-keeps s c w v safe h = by-client-keeps s c ClientFalls w v safe h (falls-safe s.ballots w c)

pub rises-keeps : (s : Setting) (c : ℕ) (age : Age) (w v : World) → IsSafe s w → ByClient s w v c (ClientRises age) → IsSafe s v
rises-keeps s c age w v safe h = by-client-keeps s c (ClientRises age) w v safe h (rises-safe s.ballots w c age)
