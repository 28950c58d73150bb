-- Where a station knows few clients, it decides for sure: the entries of its clients are a list, which
-- settles as the list of a node does.
use Rattle.std.proofs.Common.{◌≡◌, ◌≢◌, ℕ, ◌+◌, ◌-◌, ◌<◌, ◌≤◌, ◌==◌, ◌⊎◌, Bool, true, false, ◌&&◌, ◌||◌, cond, ltb, List, [], ◌∷◌, ◌++◌, zero, suc, Option, Some, None, IfSome, refl, sym, ◌∙◌, ap, subst, inl, inr, arith}
use Rattle.std.specs.List.{AllByRecursion}
use Rattle.std.specs.Option.{option_map}
use Rattle.std.proofs.lemmas.Bool.{eq-eqb, ne_eqb, ltb-true, ltb-false, cases_lt, cases_eq}
use Rattle.lock_messages.specs.declared.tickets.Ticket.{Ticket}
use Rattle.lock_messages.specs.declared.messages.Message.{Message}
use Rattle.lock_messages.specs.declared.messages.Message.TheVariants.{Grant, Busy, Done}
use Rattle.lock_model.specs.declared.entries.Entry.{Entry}
use Rattle.lock_model.specs.declared.entries.Live.{Live}
use Rattle.lock_model.specs.declared.entries.Status.TheVariants.{Waiting, Holding}
use Rattle.lock_model.specs.declared.problems.Problem.{Problem}
use Rattle.lock_model.specs.Stations.{Claim, Free, Has, Standing, Station, stranger, IsLawful, Puts, EndsAt, Ends, Settles}
use Rattle.lock_model.specs.Decisions.{AreReplies, IsNew, taken_up, IsAsked, granted, queued, IsReleased}
use Rattle.lock_model.specs.ExactStations.{knows, entry_of, claim_of, standing_of, meaning, EachOnce, IsAboveFloor, is_waiting, admits, promoted, settled_live, settled_entry, settle, settled}
use Rattle.lock_model.specs.ExactDecisions.{grants}
use Rattle.lock_model.proofs.EntryEdits.{unknown-none}
use Rattle.lock_model.proofs.SettlingSets.{settle-once}
use Rattle.lock_model.proofs.SettlingFacts.{refused-cause, admitted-free, settled-settles}
use Rattle.lock_model.proofs.GrantFacts.{settle-in-step, replies-are}
use Rattle.lock_model.proofs.DecisionFacts.{ends-lawful}

-- clients past this number are strangers to the station
abbrev pub IsFew : ℕ → Station → Type 0
IsFew count s = (c : ℕ) → count < c → s.at c ≡ stranger

-- the entries of a station

-- The entry that says where the client stands. A claim's attempt is the one above the floor.
abbrev live_at : ℕ → Claim → Option Live
live_at floor Free = None
live_at floor (Has m x status) = Some (record { attempt = floor + 1; mode = m; resource = x; status = status })

abbrev entry_at : Station → ℕ → Entry
entry_at s c = record { client = c; floor = (s.at c).floor; live = live_at (s.at c).floor (s.at c).claim }

-- the entries of the clients below this number
abbrev entries_below : Station → ℕ → List Entry
entries_below s zero = []
entries_below s (suc k) = entry_at s k ∷ entries_below s k

entry-says : (s : Station) (c : ℕ) → standing_of (Some (entry_at s c)) ≡ s.at c
entry-says s c = λ i. record { floor = (s.at c).floor; claim = said (s.at c).claim i }
  where
    said : (claim : Claim) → claim_of (live_at (s.at c).floor claim) ≡ claim
    said Free = refl
    said (Has m x status) = refl

entry-above : (s : Station) (c : ℕ) → IsAboveFloor (entry_at s c)
entry-above s c = go (s.at c).claim
  where
    go : (claim : Claim) → IfSome (live_at (s.at c).floor claim) (λ l. l.attempt ≡ (s.at c).floor + 1)
    go Free = tt
    go (Has m x status) = refl

below-above : (s : Station) (k : ℕ) → AllByRecursion IsAboveFloor (entries_below s k)
below-above s zero = tt
below-above s (suc k) = (entry-above s k, below-above s k)

-- none of them is that of a client at the number or past it
none-past : (s : Station) (k c : ℕ) → k ≤ c → knows c (entries_below s k) ≡ false
none-past s zero c past = refl
none-past s (suc k) c past =
    let apart : k ≢ c = λ e. absurd (omega (arith, past, e)) in
    ap (λ b. b || knows c (entries_below s k)) (ne_eqb k c apart) ∙ none-past s k c (omega (arith, past))

below-once : (s : Station) (k : ℕ) → EachOnce (entries_below s k)
below-once s zero = tt
below-once s (suc k) = (none-past s k k (omega arith), below-once s k)

-- and the client of one below it is found
found-below : (s : Station) (k c : ℕ) → c < k → entry_of (entries_below s k) c ≡ Some (entry_at s c)
found-below s zero c below = absurd (omega (arith, below))
found-below s (suc k) c below = go (found-below s k c) (cases_eq k c)
  where
    go : (c < k → entry_of (entries_below s k) c ≡ Some (entry_at s c)) → (k ≡ c) ⊎ (k ≢ c) → entry_of (entries_below s (suc k)) c ≡ Some (entry_at s c)
    go ih (inl same) = ap (λ b. cond b (Some (entry_at s k)) (entry_of (entries_below s k) c)) (eq-eqb k c same) ∙ ap (λ d. Some (entry_at s d)) same
    go ih (inr apart) = ap (λ b. cond b (Some (entry_at s k)) (entry_of (entries_below s k) c)) (ne_eqb k c apart) ∙ ih (omega (arith, below, apart))

-- they say where each client stands, where those past them are strangers
below-says : (s : Station) (k : ℕ) → ((c : ℕ) → k ≤ c → s.at c ≡ stranger) → (c : ℕ) → standing_of (entry_of (entries_below s k) c) ≡ s.at c
below-says s k strangers c = go (cases_lt c k)
  where
    go : (c < k) ⊎ (k ≤ c) → standing_of (entry_of (entries_below s k) c) ≡ s.at c
    go (inl below) = ap standing_of (found-below s k c below) ∙ entry-says s c
    go (inr past) = ap standing_of (unknown-none (entries_below s k) c (none-past s k c past)) ∙ sym (strangers c past)

few-meaning : (count : ℕ) (s : Station) → IsFew count s → meaning s.problem (entries_below s (count + 1)) ≡ s
few-meaning count s few = λ i. record { problem = s.problem; at = λ c. below-says s (count + 1) (λ d past. few d (omega (arith, past))) c i }

-- settling

settled-above : (p : Problem) (front rest : List Entry) → AllByRecursion IsAboveFloor rest → AllByRecursion IsAboveFloor (settle p front rest)
settled-above p front [] a = a
settled-above p front (e ∷ rest) a = (go e.live a.0, settled-above p (front ++ settled_entry p (front ++ e ∷ rest) e ∷ []) rest a.1)
  where
    live : (l : Live) (b : Bool) → l.attempt ≡ e.floor + 1 → (cond b (promoted l) l).attempt ≡ e.floor + 1
    live l true k = k
    live l false k = k

    go : (o : Option Live) → IfSome o (λ l. l.attempt ≡ e.floor + 1) → IfSome (option_map (settled_live p (front ++ e ∷ rest)) o) (λ l. l.attempt ≡ e.floor + 1)
    go None k = k
    go (Some l) k = live l (is_waiting l.status && admits p l.mode l.resource (front ++ e ∷ rest)) k

-- a settling of the station, by the entries that it leaves, and the Grants that it tells
record SettlesSurely (n : ℕ) (s : Station) : Type 0 where
  entries : List Entry
  once : EachOnce entries
  settles : Settles s (meaning s.problem entries)
  grants_told : List Message
  replies_are : (first : Message) → AreReplies n first s (meaning s.problem entries) (first ∷ grants_told)

few-settles : (count n : ℕ) (s : Station) → IsFew count s → IsLawful s → SettlesSurely n s
few-settles count n s few lawful = record {
  entries = after;
  once = settle-once p [] before once;
  settles = subst (λ t. Settles t (meaning p after)) same settles;
  grants_told = grants n before after;
  replies_are = λ first. subst (λ t. AreReplies n first t (meaning p after) (first ∷ grants n before after)) same
      (replies-are n p before after first (settle-in-step p [] before) once (settled-above p [] before (below-above s (count + 1))) settles);
}
  where
    p : Problem
    p = s.problem

    before : List Entry
    before = entries_below s (count + 1)

    after : List Entry
    after = settled p before

    same : meaning p before ≡ s
    same = few-meaning count s few

    once : EachOnce before
    once = below-once s (count + 1)

    settles : Settles (meaning p before) (meaning p after)
    settles = settled-settles p before once (subst IsLawful (sym same) lawful)

-- one client put elsewhere

abbrev placed : Station → ℕ → Standing → Station
placed s c standing = record { problem = s.problem; at = λ d. cond (d == c) standing (s.at d) }

placed-puts : (s : Station) (c : ℕ) (standing : Standing) → Puts s c standing (placed s c standing)
placed-puts s c standing = record {
  problem = refl;
  here = ap (λ b. cond b standing (s.at c)) (eq-eqb c c refl);
  others = λ d apart. ap (λ b. cond b standing (s.at d)) (ne_eqb d c apart);
}

-- a client that isn't past the number leaves those that are strangers
placed-few : (count : ℕ) (s : Station) (c : ℕ) (standing : Standing) → IsFew count s → c ≤ count → IsFew count (placed s c standing)
placed-few count s c standing few within d past =
    let apart : d ≢ c = λ e. absurd (omega (arith, within, past, e)) in
    (placed-puts s c standing).others d apart ∙ few d past

abbrev ended_at : ℕ → Standing → Standing
ended_at a before = cond (ltb before.floor a) (record { floor = a; claim = Free }) before

ended-at : (a : ℕ) (before : Standing) → EndsAt a before (ended_at a before)
ended-at a before = go (ltb before.floor a) refl
  where
    go : (b : Bool) → ltb before.floor a ≡ b → EndsAt a before (cond b (record { floor = a; claim = Free }) before)
    go true h = inr (ltb-true before.floor a h, refl)
    go false h = inl (ltb-false before.floor a h, refl)

-- a station with the client's attempts up to a ended, and settled since
record EndsAndSettles (n : ℕ) (s : Station) (c a : ℕ) : Type 0 where
  ended : Station
  ends : Ends s c a ended
  settling : SettlesSurely n ended

few-ends : (count n c a : ℕ) (s : Station) → IsFew count s → IsLawful s → c ≤ count → EndsAndSettles n s c a
few-ends count n c a s few lawful within =
    let standing = ended_at a (s.at c) in
    let ended = placed s c standing in
    let ends : Ends s c a ended = (standing, ended-at a (s.at c), placed-puts s c standing) in
    record {
      ended = ended;
      ends = ends;
      settling = few-settles count n ended (placed-few count s c standing few within) (ends-lawful s ended c a ends lawful);
    }

-- what it decides

-- Among few clients a station can be told that a client's attempts are over.
pub released-decides : (count n c a : ℕ) (s : Station) → IsFew count s → IsLawful s → c ≤ count →
    (after : Station) × (replies : List Message) × IsReleased n s c a after replies
released-decides count n c a s few lawful within =
    let e = few-ends count n c a s few lawful within in
    let r = e.settling in (
      meaning (e.ended).problem r.entries,
      Done n c a ∷ r.grants_told,
      record { ended = e.ended; ends = e.ends; settles = r.settles; replies_are = r.replies_are (Done n c a) },
    )

-- Among few clients a station can be asked with a new ticket: it is granted or queued.
pub asked-decides : (count n : ℕ) (s : Station) (t : Ticket) → IsFew count s → IsLawful s → t.client ≤ count → IsNew (s.at t.client) t.attempt →
    (after : Station) × (replies : List Message) × IsAsked n s t after replies
asked-decides count n s t few lawful within new = go (admits p t.mode t.resource r.entries) refl
  where
    e : EndsAndSettles n s t.client (t.attempt - 1)
    e = few-ends count n t.client (t.attempt - 1) s few lawful within

    p : Problem
    p = (e.ended).problem

    r : SettlesSurely n e.ended
    r = e.settling

    now : Station
    now = meaning p r.entries

    go : (b : Bool) → admits p t.mode t.resource r.entries ≡ b → (after : Station) × (replies : List Message) × IsAsked n s t after replies
    go true h = (
      placed now t.client (taken_up t Holding),
      Grant n t ∷ r.grants_told,
      granted new e.ended now e.ends r.settles (admitted-free p r.entries t.mode t.resource h) (placed-puts now t.client (taken_up t Holding)) (r.replies_are (Grant n t)),
    )
    go false h = (
      placed now t.client (taken_up t Waiting),
      Busy n t ∷ r.grants_told,
      queued new e.ended now e.ends r.settles (refused-cause p r.entries t.mode t.resource r.once h) (placed-puts now t.client (taken_up t Waiting)) (r.replies_are (Busy n t)),
    )
