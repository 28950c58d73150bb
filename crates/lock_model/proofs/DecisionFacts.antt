-- The exact decision is one that the node may take, and floors never fall.
use Rattle.std.proofs.Common.{◌≡◌, ◌≢◌, ℕ, ◌+◌, ◌-◌, ◌<◌, ◌≤◌, ◌==◌, ◌⊎◌, Bool, true, false, ◌&&◌, cond, leb, List, [], ◌∷◌, Option, Some, None, IfSome, refl, sym, ◌∙◌, ap, subst, inl, inr, arith}
use Rattle.std.specs.Str.{bytes_eq}
use Rattle.std.specs.List.{AllByRecursion}
use Rattle.std.proofs.lemmas.Bool.{eqb-true, eqb-false, cases_Bool, cases_eq, and_parts, and_cases, leb-true, leb-false, cases_lt}
use Rattle.std.proofs.lemmas.Slice.Eq.{bytes_eq-Decides}
use Rattle.lock_messages.specs.declared.tickets.Mode.{Mode}
use Rattle.lock_messages.specs.declared.tickets.Mode.TheVariants.{Read, Write}
use Rattle.lock_messages.specs.declared.tickets.Ticket.{Ticket}
use Rattle.lock_messages.specs.declared.messages.Message.{Message}
use Rattle.lock_messages.specs.declared.messages.Message.TheVariants.{Request, Release, Grant, Busy, Over, Done, Muddled, Soften}
use Rattle.lock_messages.specs.declared.messages.Message.TheVariants as message
use Rattle.lock_messages.specs.Messages.{is_for_node}
use Rattle.lock_model.specs.declared.entries.Entry.{Entry}
use Rattle.lock_model.specs.declared.entries.Live.{Live}
use Rattle.lock_model.specs.declared.entries.Status.{Status}
use Rattle.lock_model.specs.declared.entries.Status.TheVariants.{Waiting, Holding, Softened}
use Rattle.lock_model.specs.declared.problems.Problem.{Problem}
use Rattle.lock_model.specs.Stations.{Free, Has, Standing, Station, IsHolder, asked_mode, Holds, Waits, IsLawful, Cause, IsCaused, Puts, IsEnded, EndsAt, Ends, SoftensAt, holder, waiter, neither, Softens, Becomes, Settles}
use Rattle.lock_model.specs.Decisions.{AreReplies, IsNew, taken_up, IsAsked, over, muddled, held, waited, granted, queued, IsReleased, IsSoftened, Decides}
use Rattle.lock_model.specs.Decisions as Decision
use Rattle.lock_model.specs.ExactStations.{entry_of, standing_of, claim_of, meaning, IsAboveFloor, IsReaderIfSoftened, IsWellFormed, admits, settled}
use Rattle.lock_model.specs.ExactDecisions.{Outcome, ended, softened, grants, same_mode, reply_by_status, live_reply, reply_of_live, reply_to_known, floor_in, live_in, new_entry, moved_last, takes_up, answered, decision}
use Rattle.lock_model.specs.Laws.{IsAllowed}
use Rattle.lock_model.proofs.EntryFacts.{all-at}
use Rattle.lock_model.proofs.StationFacts.{writer-causes}
use Rattle.lock_model.proofs.SettlingFacts.{refused-cause, admitted-free, settled-settles}
use Rattle.lock_model.proofs.EntryEdits.{ended-ends, ended-well, softened-softens, softened-well, settled-well, moved-puts, moved-well}
use Rattle.lock_model.proofs.GrantFacts.{settle-in-step, replies-are, only-reply}
use Rattle.lock_model.proofs.HearingFacts.{mode-to}

-- ending attempts

ends-claim : (s t : Station) (c a : ℕ) → Ends s c a t → (d : ℕ) → ((t.at d).claim ≡ (s.at d).claim) ⊎ ((t.at d).claim ≡ Free)
ends-claim s t c a e d = go (cases_eq d c)
  where
    at_c : EndsAt a (s.at c) e.0 → ((t.at c).claim ≡ (s.at c).claim) ⊎ ((t.at c).claim ≡ Free)
    at_c (inl h) = inl (ap (λ (w : Standing). w.claim) (e.2.here ∙ h.1))
    at_c (inr h) = inr (ap (λ (w : Standing). w.claim) (e.2.here ∙ h.1))

    go : (d ≡ c) ⊎ (d ≢ c) → ((t.at d).claim ≡ (s.at d).claim) ⊎ ((t.at d).claim ≡ Free)
    go (inl same) = subst (λ n. ((t.at n).claim ≡ (s.at n).claim) ⊎ ((t.at n).claim ≡ Free)) (sym same) (at_c e.1)
    go (inr apart) = inl (ap (λ (w : Standing). w.claim) (e.2.others d apart))

ends-holds : (s t : Station) (c a : ℕ) → Ends s c a t → (d : ℕ) (m : Mode) (x : List ℕ) → Holds t d m x → Holds s d m x
ends-holds s t c a e d m x h = go (ends-claim s t c a e d)
  where
    go : ((t.at d).claim ≡ (s.at d).claim) ⊎ ((t.at d).claim ≡ Free) → Holds s d m x
    go (inl k) = (h.0, h.1, sym k ∙ h.2)
    go (inr k) = absurd (let z : Free ≡ Has m x h.0 = sym k ∙ h.2 in cc)

pub ends-lawful : (s t : Station) (c a : ℕ) → Ends s c a t → IsLawful s → IsLawful t
ends-lawful s t c a e l = record { alone = λ i j m x p q. l.alone i j m x (ends-holds s t c a e i Write x p) (ends-holds s t c a e j m x q) }

-- softening an attempt

-- who holds now held before, and a writer did as a writer
softens-claim : (a : ℕ) (before after : Standing) → SoftensAt a before after → (m : Mode) (x : List ℕ) (v : Status) → IsHolder v → after.claim ≡ Has m x v →
    (n : Mode) × (w : Status) × IsHolder w × (before.claim ≡ Has n x w) × (m ≡ Write → n ≡ Write)
softens-claim a before after (holder y now claim) m x v i h =
    let resource : y ≡ x = cc in
    (Write, Holding, tt, claim ∙ ap (λ z. Has Write z Holding) resource, λ e. refl)
softens-claim a before after (waiter y now claim) m x v i h = absurd (let z : Free ≡ Has m x v = h in cc)
softens-claim a before after (neither other) m x v i h = (m, v, i, h, λ e. e)

record Held (s : Station) (d : ℕ) (m : Mode) (x : List ℕ) : Type 0 where
  pub mode : Mode
  pub held : Holds s d mode x
  pub as_writer : m ≡ Write → mode ≡ Write

softens-holds : (s t : Station) (c a : ℕ) → Softens s c a t → (d : ℕ) (m : Mode) (x : List ℕ) → Holds t d m x → Held s d m x
softens-holds s t c a e d m x h = go (cases_eq d c)
  where
    at_c : Holds t c m x → Held s c m x
    at_c k =
        let r = softens-claim a (s.at c) e.0 e.1 m x k.0 k.1 (sym (ap (λ (w : Standing). w.claim) e.2.here) ∙ k.2) in
        record { mode = r.0; held = (r.1, r.2, r.3); as_writer = r.4 }

    go : (d ≡ c) ⊎ (d ≢ c) → Held s d m x
    go (inl same) = subst (λ n. Held s n m x) (sym same) (at_c (subst (λ n. Holds t n m x) same h))
    go (inr apart) = record { mode = m; held = (h.0, h.1, sym (ap (λ (w : Standing). w.claim) (e.2.others d apart)) ∙ h.2); as_writer = λ w. w }

pub softens-lawful : (s t : Station) (c a : ℕ) → Softens s c a t → IsLawful s → IsLawful t
softens-lawful s t c a e l = record { alone = λ i j m x p q. go i j x (softens-holds s t c a e i Write x p) (softens-holds s t c a e j m x q) }
  where
    go : {m : Mode} (i j : ℕ) (x : List ℕ) → Held s i Write x → Held s j m x → j ≡ i
    go i j x p q = l.alone i j q.mode x (subst (λ n. Holds s i n x) (p.as_writer refl) p.held) q.held

-- a new ticket's client has no claim once the attempts before it are ended, and none once that has settled
new-free : (s t : Station) (c a : ℕ) → IsNew (s.at c) a → Ends s c (a - 1) t → (t.at c).claim ≡ Free
new-free s t c a new e = go new e.1
  where
    claim : (t.at c).claim ≡ (e.0).claim
    claim = ap (λ (w : Standing). w.claim) e.2.here

    go : IsNew (s.at c) a → EndsAt (a - 1) (s.at c) e.0 → (t.at c).claim ≡ Free
    go n (inr h) = claim ∙ ap (λ (w : Standing). w.claim) h.1
    go (inl n) (inl h) = absurd (let floor : (s.at c).floor + 1 < a = n in omega arith)
    go (inr n) (inl h) = claim ∙ ap (λ (w : Standing). w.claim) h.1 ∙ n.1

settled-free : (s t : Station) (c : ℕ) → Settles s t → (s.at c).claim ≡ Free → (t.at c).claim ≡ Free
settled-free s t c k free = go (k.claims c)
  where
    go : ((t.at c).claim ≡ (s.at c).claim) ⊎ ((m : Mode) × (x : List ℕ) × Becomes s t c m x) → (t.at c).claim ≡ Free
    go (inl e) = e ∙ free
    go (inr b) = absurd (let z : Free ≡ Has b.0 b.1 Waiting = sym free ∙ b.2.0 in cc)

-- A client without a claim is put with one that has a cause exactly if it waits.
record Joins (s : Station) (c : ℕ) (m : Mode) (x : List ℕ) (status : Status) (t : Station) : Type 0 where
  pub lawful : IsLawful s
  pub caused : IsCaused s
  pub free : (s.at c).claim ≡ Free
  pub problem : t.problem ≡ s.problem
  pub here : (t.at c).claim ≡ Has m x status
  pub others : (d : ℕ) → d ≢ c → (t.at d).claim ≡ (s.at d).claim
  pub holding : IsHolder status → ¬ (Cause s m x)
  pub waiting : status ≡ Waiting → Cause s m x

-- who has a claim before keeps it
joins-kept : (s t : Station) (c : ℕ) (m : Mode) (x : List ℕ) (status : Status) → Joins s c m x status t → (d : ℕ) (n : Mode) (y : List ℕ) (w : Status) → (s.at d).claim ≡ Has n y w → (t.at d).claim ≡ Has n y w
joins-kept s t c m x status j d n y w h = go (cases_eq d c)
  where
    go : (d ≡ c) ⊎ (d ≢ c) → (t.at d).claim ≡ Has n y w
    go (inl e) = absurd (let z : Free ≡ Has n y w = sym j.free ∙ ap (λ k. (s.at k).claim) (sym e) ∙ h in cc)
    go (inr e) = j.others d e ∙ h

joins-cause : (s t : Station) (c : ℕ) (m : Mode) (x : List ℕ) (status : Status) → Joins s c m x status t → (n : Mode) (y : List ℕ) → Cause s n y → Cause t n y
joins-cause s t c m x status j Write y h = (h.0, h.1, (h.2.0, h.2.1, joins-kept s t c m x status j h.0 h.1 y h.2.0 h.2.2))
joins-cause s t c m x status j Read y (inl h) = inl (h.0, (h.1.0, h.1.1, joins-kept s t c m x status j h.0 Write y h.1.0 h.1.2))
joins-cause s t c m x status j Read y (inr h) = inr (j.problem ∙ h.0, (h.1.0, joins-kept s t c m x status j h.1.0 Write y Waiting h.1.1))

joins-caused : (s t : Station) (c : ℕ) (m : Mode) (x : List ℕ) (status : Status) → Joins s c m x status t → IsCaused t
joins-caused s t c m x status j = record { cause = λ d n y w. go d n y w (cases_eq d c) }
  where
    go : (d : ℕ) (n : Mode) (y : List ℕ) → Waits t d n y → (d ≡ c) ⊎ (d ≢ c) → Cause t n y
    go d n y w (inr e) = joins-cause s t c m x status j n y (j.caused.cause d n y (sym (j.others d e) ∙ w))
    go d n y w (inl e) =
        let mine : Has m x status ≡ Has n y Waiting = sym j.here ∙ ap (λ k. (t.at k).claim) (sym e) ∙ w in
        let mode : m ≡ n = cc in
        let resource : x ≡ y = cc in
        let waits : status ≡ Waiting = cc in
        joins-cause s t c m x status j n y (subst (λ k. Cause s k y) mode (subst (λ k. Cause s m k) resource (j.waiting waits)))

joins-lawful : (s t : Station) (c : ℕ) (m : Mode) (x : List ℕ) (status : Status) → Joins s c m x status t → IsLawful t
joins-lawful s t c m x status j = record { alone = λ a b n y p q. go a b n y p q (cases_eq a c) (cases_eq b c) }
  where
    back : (d : ℕ) → d ≢ c → (n : Mode) (y : List ℕ) → Holds t d n y → Holds s d n y
    back d apart n y h = (h.0, h.1, sym (j.others d apart) ∙ h.2)

    go : (a b : ℕ) (n : Mode) (y : List ℕ) → Holds t a Write y → Holds t b n y → (a ≡ c) ⊎ (a ≢ c) → (b ≡ c) ⊎ (b ≢ c) → b ≡ a
    go a b n y p q (inl e) (inl f) = f ∙ sym e
    go a b n y p q (inr e) (inr f) = j.lawful.alone a b n y (back a e Write y p) (back b f n y q)
    go a b n y p q (inl e) (inr f) =
        let mine : Has m x status ≡ Has Write y p.0 = sym j.here ∙ ap (λ k. (t.at k).claim) (sym e) ∙ p.2 in
        let mode : Write ≡ m = cc in
        let resource : y ≡ x = cc in
        let same : p.0 ≡ status = cc in
        let cause : Cause s Write y = (b, n, back b f n y q) in
        absurd (j.holding (subst IsHolder same p.1) (subst (λ w. Cause s w x) mode (subst (λ w. Cause s Write w) resource cause)))
    go a b n y p q (inr e) (inl f) =
        let mine : Has m x status ≡ Has n y q.0 = sym j.here ∙ ap (λ k. (t.at k).claim) (sym f) ∙ q.2 in
        let resource : y ≡ x = cc in
        let same : q.0 ≡ status = cc in
        absurd (j.holding (subst IsHolder same q.1) (subst (λ w. Cause s m w) resource (writer-causes s a m y (back a e Write y p))))

-- the exact decision on a ticket that is taken up

record TakenUp (n : ℕ) (p : Problem) (es : List Entry) (t : Ticket) : Type 0 where
  pub asked : IsAsked n (meaning p es) t (meaning p (takes_up n p es t).entries) (takes_up n p es t).replies
  pub lawful : IsLawful (meaning p (takes_up n p es t).entries)
  pub caused : IsCaused (meaning p (takes_up n p es t).entries)

takes-up : (n : ℕ) (p : Problem) (es : List Entry) (t : Ticket) → 1 ≤ t.attempt → IsWellFormed es → IsLawful (meaning p es) → IsNew ((meaning p es).at t.client) t.attempt → TakenUp n p es t
takes-up n p es t positive w l new = go (admits p t.mode t.resource after) refl
  where
    before : List Entry
    before = ended t.client (t.attempt - 1) es

    after : List Entry
    after = settled p before

    ends : Ends (meaning p es) t.client (t.attempt - 1) (meaning p before)
    ends = ended-ends p t.client (t.attempt - 1) es w.once

    well : IsWellFormed before
    well = ended-well t.client (t.attempt - 1) es w

    settles : Settles (meaning p before) (meaning p after)
    settles = settled-settles p before well.once (ends-lawful (meaning p es) (meaning p before) t.client (t.attempt - 1) ends l)

    settled_well : IsWellFormed after
    settled_well = settled-well p before well

    free : ((meaning p after).at t.client).claim ≡ Free
    free = settled-free (meaning p before) (meaning p after) t.client settles (new-free (meaning p es) (meaning p before) t.client t.attempt new ends)

    replies : (first : Message) → AreReplies n first (meaning p before) (meaning p after) (first ∷ grants n before after)
    replies first = replies-are n p before after first (settle-in-step p [] before) well.once settled_well.attempts settles

    puts : (b : Bool) → Puts (meaning p after) t.client (standing_of (Some (new_entry t b))) (meaning p (moved_last (new_entry t b) after))
    puts b = moved-puts p (new_entry t b) after settled_well.once

    joins : (b : Bool) (status : Status) → standing_of (Some (new_entry t b)) ≡ taken_up t status → (IsHolder status → ¬ (Cause (meaning p after) t.mode t.resource)) → (status ≡ Waiting → Cause (meaning p after) t.mode t.resource) →
        Joins (meaning p after) t.client t.mode t.resource status (meaning p (moved_last (new_entry t b) after))
    joins b status s h k = record {
      lawful = settles.lawful;
      caused = settles.caused;
      free = free;
      problem = refl;
      here = ap (λ (v : Standing). v.claim) ((puts b).here ∙ s);
      others = λ d apart. ap (λ (v : Standing). v.claim) ((puts b).others d apart);
      holding = h;
      waiting = k;
    }

    go : (b : Bool) → admits p t.mode t.resource after ≡ b → TakenUp n p es t
    go true h =
        let nothing = admitted-free p after t.mode t.resource h in
        let j = joins true Holding refl (λ _. nothing) (λ z. absurd (let q : Holding ≡ Waiting = z in cc)) in
        let outcome : (takes_up n p es t) ≡ record { entries = moved_last (new_entry t true) after; replies = Grant n t ∷ grants n before after } =
        ap (λ b. record { entries = moved_last (new_entry t b) after; replies = cond b (Grant n t) (Busy n t) ∷ grants n before after }) h in
        record {
          asked = subst (λ (o : Outcome). IsAsked n (meaning p es) t (meaning p o.entries) o.replies) (sym outcome)
              (granted new (meaning p before) (meaning p after) ends settles nothing (puts true) (replies (Grant n t)));
          lawful = subst (λ (o : Outcome). IsLawful (meaning p o.entries)) (sym outcome) (joins-lawful (meaning p after) (meaning p (moved_last (new_entry t true) after)) t.client t.mode t.resource Holding j);
          caused = subst (λ (o : Outcome). IsCaused (meaning p o.entries)) (sym outcome) (joins-caused (meaning p after) (meaning p (moved_last (new_entry t true) after)) t.client t.mode t.resource Holding j);
        }
    go false h =
        let cause = refused-cause p after t.mode t.resource settled_well.once h in
        let j = joins false Waiting refl (λ z. absurd z) (λ _. cause) in
        let outcome : (takes_up n p es t) ≡ record { entries = moved_last (new_entry t false) after; replies = Busy n t ∷ grants n before after } =
        ap (λ b. record { entries = moved_last (new_entry t b) after; replies = cond b (Grant n t) (Busy n t) ∷ grants n before after }) h in
        record {
          asked = subst (λ (o : Outcome). IsAsked n (meaning p es) t (meaning p o.entries) o.replies) (sym outcome)
              (queued new (meaning p before) (meaning p after) ends settles cause (puts false) (replies (Busy n t)));
          lawful = subst (λ (o : Outcome). IsLawful (meaning p o.entries)) (sym outcome) (joins-lawful (meaning p after) (meaning p (moved_last (new_entry t false) after)) t.client t.mode t.resource Waiting j);
          caused = subst (λ (o : Outcome). IsCaused (meaning p o.entries)) (sym outcome) (joins-caused (meaning p after) (meaning p (moved_last (new_entry t false) after)) t.client t.mode t.resource Waiting j);
        }

takes-up-well : (n : ℕ) (p : Problem) (es : List Entry) (t : Ticket) → 1 ≤ t.attempt → IsWellFormed es → IsWellFormed (takes_up n p es t).entries
takes-up-well n p es t positive w =
    let before = ended t.client (t.attempt - 1) es in
    let after = settled p before in
    moved-well (new_entry t (admits p t.mode t.resource after)) after (omega arith) (not-softened (admits p t.mode t.resource after)) (settled-well p before (ended-well t.client (t.attempt - 1) es w))
  where
    not-softened : (b : Bool) → IsReaderIfSoftened (new_entry t b)
    not-softened true s = absurd (let z : Holding ≡ Softened = s in cc)
    not-softened false s = absurd (let z : Waiting ≡ Softened = s in cc)

-- a request, by what the node knows of its client

same-mode-false : (a b : Mode) → same_mode a b ≡ false → a ≢ b
same-mode-false Read Read h e = cc
same-mode-false Read Write h e = cc
same-mode-false Write Read h e = cc
same-mode-false Write Write h e = cc

standing-in : (o : Option Entry) → ((standing_of o).floor ≡ floor_in o) × ((standing_of o).claim ≡ claim_of (live_in o))
standing-in None = (refl, refl)
standing-in (Some e) = (refl, refl)

live-above : (es : List Entry) (c : ℕ) (l : Live) → AllByRecursion IsAboveFloor es → live_in (entry_of es c) ≡ Some l → l.attempt ≡ floor_in (entry_of es c) + 1
live-above es c l a h = go (entry_of es c) refl h
  where
    go : (o : Option Entry) → entry_of es c ≡ o → live_in o ≡ Some l → l.attempt ≡ floor_in (entry_of es c) + 1
    go None k s = absurd (let z : None ≡ Some l = s in cc)
    go (Some e) k s = subst (λ v. IfSome v (λ k. k.attempt ≡ e.floor + 1)) s (all-at IsAboveFloor es c e a k) ∙ ap (λ o. floor_in o + 1) (sym k)

live-reader : (es : List Entry) (c : ℕ) (l : Live) → AllByRecursion IsReaderIfSoftened es → live_in (entry_of es c) ≡ Some l → l.status ≡ Softened → l.mode ≡ Read
live-reader es c l a h = go (entry_of es c) refl h
  where
    go : (o : Option Entry) → entry_of es c ≡ o → live_in o ≡ Some l → l.status ≡ Softened → l.mode ≡ Read
    go None k s = absurd (let z : None ≡ Some l = s in cc)
    go (Some e) k s = subst (λ v. IfSome v (λ k. k.status ≡ Softened → k.mode ≡ Read)) s (all-at IsReaderIfSoftened es c e a k)

unchanged : (p : Problem) (es : List Entry) (n : ℕ) (t : Ticket) (first : Message) → IsWellFormed es → IsLawful (meaning p es) → IsCaused (meaning p es) →
    IsAsked n (meaning p es) t (meaning p es) (first ∷ []) → decision p es (Request n t) ≡ record { entries = es; replies = first ∷ [] } → IsAllowed p es (Request n t)
unchanged p es n t first w l c asked is = record {
  decides = subst (λ (o : Outcome). IsAsked n (meaning p es) t (meaning p o.entries) o.replies) (sym is) asked;
  well_formed = subst (λ (o : Outcome). IsWellFormed o.entries) (sym is) w;
  lawful = subst (λ (o : Outcome). IsLawful (meaning p o.entries)) (sym is) l;
  caused = subst (λ (o : Outcome). IsCaused (meaning p o.entries)) (sym is) c;
}

took-up : (p : Problem) (es : List Entry) (n : ℕ) (t : Ticket) → IsWellFormed es → IsLawful (meaning p es) → 1 ≤ t.attempt → IsNew ((meaning p es).at t.client) t.attempt →
    decision p es (Request n t) ≡ takes_up n p es t → IsAllowed p es (Request n t)
took-up p es n t w l positive new is =
    let k = takes-up n p es t positive w l new in
    record {
      decides = subst (λ (o : Outcome). IsAsked n (meaning p es) t (meaning p o.entries) o.replies) (sym is) k.asked;
      well_formed = subst (λ (o : Outcome). IsWellFormed o.entries) (sym is) (takes-up-well n p es t positive w);
      lawful = subst (λ (o : Outcome). IsLawful (meaning p o.entries)) (sym is) k.lawful;
      caused = subst (λ (o : Outcome). IsCaused (meaning p o.entries)) (sym is) k.caused;
    }

-- the attempt is the live one
asked-live : (p : Problem) (es : List Entry) (n : ℕ) (t : Ticket) (k : Live) → IsWellFormed es → IsLawful (meaning p es) → IsCaused (meaning p es) →
    live_in (entry_of es t.client) ≡ Some k → k.attempt ≡ t.attempt → reply_to_known n t (entry_of es t.client) ≡ Some (live_reply n t k) → IsAllowed p es (Request n t)
asked-live p es n t k w l c live same reply = go (cases_Bool (same_mode (asked_mode k.mode k.status) t.mode && bytes_eq k.resource t.resource))
  where
    s : Station
    s = meaning p es

    is : decision p es (Request n t) ≡ record { entries = es; replies = live_reply n t k ∷ [] }
    is = ap (answered n p es t) reply

    floor : t.attempt ≡ (s.at t.client).floor + 1
    floor = sym same ∙ live-above es t.client k w.attempts live ∙ ap (λ q. q + 1) (sym (standing-in (entry_of es t.client)).0)

    claim : (s.at t.client).claim ≡ Has k.mode k.resource k.status
    claim = (standing-in (entry_of es t.client)).1 ∙ ap claim_of live

    claim_is : (m : Mode) (v : Status) → k.mode ≡ m → k.resource ≡ t.resource → k.status ≡ v → (s.at t.client).claim ≡ Has m t.resource v
    claim_is m v e x h = claim ∙ ap (λ q. Has q k.resource k.status) e ∙ ap (λ q. Has m q k.status) x ∙ ap (Has m t.resource) h

    by_status : (v : Status) → k.status ≡ v → asked_mode k.mode v ≡ t.mode → k.resource ≡ t.resource →
        decision p es (Request n t) ≡ record { entries = es; replies = reply_by_status n t v ∷ [] } → IsAllowed p es (Request n t)
    by_status Holding v m x h = unchanged p es n t (Grant n t) w l c (held floor (claim_is t.mode Holding m x v) refl (only-reply (Grant n t))) h
    by_status Waiting v m x h = unchanged p es n t (Busy n t) w l c (waited floor (claim_is t.mode Waiting m x v) refl (only-reply (Busy n t))) h
    by_status Softened v m x h = unchanged p es n t (message.Softened n t.client t.attempt) w l c
        (Decision.softened floor (sym m) (claim_is Read Softened (live-reader es t.client k w.softened live v) x v) refl (only-reply (message.Softened n t.client t.attempt))) h

    differs : (same_mode (asked_mode k.mode k.status) t.mode ≡ false) ⊎ (bytes_eq k.resource t.resource ≡ false) → (asked_mode k.mode k.status ≢ t.mode) ⊎ (k.resource ≢ t.resource)
    differs (inl h) = inl (same-mode-false (asked_mode k.mode k.status) t.mode h)
    differs (inr h) = inr (λ e. let z : false ≡ true = sym h ∙ (bytes_eq-Decides k.resource t.resource).1 e in cc)

    told : (b : Bool) → (same_mode (asked_mode k.mode k.status) t.mode && bytes_eq k.resource t.resource) ≡ b →
        decision p es (Request n t) ≡ record { entries = es; replies = cond b (reply_by_status n t k.status) (Muddled n t.client t.attempt) ∷ [] }
    told b h = is ∙ ap (λ v. record { entries = es; replies = cond v (reply_by_status n t k.status) (Muddled n t.client t.attempt) ∷ [] }) h

    go : ((same_mode (asked_mode k.mode k.status) t.mode && bytes_eq k.resource t.resource) ≡ true) ⊎ ((same_mode (asked_mode k.mode k.status) t.mode && bytes_eq k.resource t.resource) ≡ false) → IsAllowed p es (Request n t)
    go (inl h) =
        let parts = and_parts (same_mode (asked_mode k.mode k.status) t.mode) (bytes_eq k.resource t.resource) h in
        by_status k.status refl (mode-to (asked_mode k.mode k.status) t.mode parts.0) ((bytes_eq-Decides k.resource t.resource).0 parts.1) (told true h)
    go (inr h) = unchanged p es n t (Muddled n t.client t.attempt) w l c
        (muddled k.mode k.resource k.status floor claim (differs (and_cases (same_mode (asked_mode k.mode k.status) t.mode) (bytes_eq k.resource t.resource) h)) refl (only-reply (Muddled n t.client t.attempt)))
        (told false h)

-- the attempt is above the floor
asked-above : (p : Problem) (es : List Entry) (n : ℕ) (t : Ticket) → IsWellFormed es → IsLawful (meaning p es) → IsCaused (meaning p es) →
    floor_in (entry_of es t.client) < t.attempt → reply_to_known n t (entry_of es t.client) ≡ reply_of_live n t (live_in (entry_of es t.client)) → IsAllowed p es (Request n t)
asked-above p es n t w l c above reply = go (live_in (entry_of es t.client)) refl
  where
    s : Station
    s = meaning p es

    floor : (s.at t.client).floor ≡ floor_in (entry_of es t.client)
    floor = (standing-in (entry_of es t.client)).0

    positive : 1 ≤ t.attempt
    positive = omega arith

    none : live_in (entry_of es t.client) ≡ None → (((s.at t.client).floor + 1 < t.attempt) ⊎ (t.attempt ≤ (s.at t.client).floor + 1)) → IsNew (s.at t.client) t.attempt
    none h (inl q) = inl q
    none h (inr q) = inr (let f : (s.at t.client).floor ≡ floor_in (entry_of es t.client) = floor in omega arith, (standing-in (entry_of es t.client)).1 ∙ ap claim_of h)

    other : (k : Live) → live_in (entry_of es t.client) ≡ Some k → (k.attempt ≢ t.attempt) → IsNew (s.at t.client) t.attempt
    other k h apart = inl (let f : (s.at t.client).floor ≡ floor_in (entry_of es t.client) = floor in let g : k.attempt ≡ floor_in (entry_of es t.client) + 1 = live-above es t.client k w.attempts h in omega arith)

    go : (o : Option Live) → live_in (entry_of es t.client) ≡ o → IsAllowed p es (Request n t)
    go None h = took-up p es n t w l positive (none h (cases_lt ((s.at t.client).floor + 1) t.attempt)) (ap (answered n p es t) (reply ∙ ap (reply_of_live n t) h))
    go (Some k) h = by_attempt (cases_Bool (k.attempt == t.attempt))
      where
        by_attempt : ((k.attempt == t.attempt) ≡ true) ⊎ ((k.attempt == t.attempt) ≡ false) → IsAllowed p es (Request n t)
        by_attempt (inl e) = asked-live p es n t k w l c h (eqb-true k.attempt t.attempt e) (reply ∙ ap (reply_of_live n t) h ∙ ap (λ b. cond b (Some (live_reply n t k)) None) e)
        by_attempt (inr e) = took-up p es n t w l positive (other k h (eqb-false k.attempt t.attempt e)) (ap (answered n p es t) (reply ∙ ap (reply_of_live n t) h ∙ ap (λ b. cond b (Some (live_reply n t k)) None) e))

asked-allowed : (p : Problem) (es : List Entry) (n : ℕ) (t : Ticket) → IsWellFormed es → IsLawful (meaning p es) → IsCaused (meaning p es) → IsAllowed p es (Request n t)
asked-allowed p es n t w l c = go (cases_Bool (leb t.attempt (floor_in (entry_of es t.client))))
  where
    go : (leb t.attempt (floor_in (entry_of es t.client)) ≡ true) ⊎ (leb t.attempt (floor_in (entry_of es t.client)) ≡ false) → IsAllowed p es (Request n t)
    go (inl h) =
        let ended_is : t.attempt ≤ ((meaning p es).at t.client).floor = subst (λ q. t.attempt ≤ q) (sym (standing-in (entry_of es t.client)).0) (leb-true t.attempt (floor_in (entry_of es t.client)) h) in
        unchanged p es n t (Over n t.client t.attempt) w l c (over ended_is refl (only-reply (Over n t.client t.attempt)))
        (ap (answered n p es t) (ap (λ b. cond b (Some (Over n t.client t.attempt)) (reply_of_live n t (live_in (entry_of es t.client)))) h))
    go (inr h) = asked-above p es n t w l c (leb-false t.attempt (floor_in (entry_of es t.client)) h) (ap (λ b. cond b (Some (Over n t.client t.attempt)) (reply_of_live n t (live_in (entry_of es t.client)))) h)

released-allowed : (p : Problem) (es : List Entry) (n c a : ℕ) → IsWellFormed es → IsLawful (meaning p es) → IsAllowed p es (Release n c a)
released-allowed p es n c a w l =
    let before = ended c a es in
    let ends = ended-ends p c a es w.once in
    let well = ended-well c a es w in
    let settles = settled-settles p before well.once (ends-lawful (meaning p es) (meaning p before) c a ends l) in
    let settled_well = settled-well p before well in
    record {
      decides = record {
        ended = meaning p before;
        ends = ends;
        settles = settles;
        replies_are = replies-are n p before (settled p before) (Done n c a) (settle-in-step p [] before) well.once settled_well.attempts settles;
      };
      well_formed = settled_well;
      lawful = settles.lawful;
      caused = settles.caused;
    }

softened-allowed : (p : Problem) (es : List Entry) (n c a : ℕ) → IsWellFormed es → IsLawful (meaning p es) → IsAllowed p es (Soften n c a)
softened-allowed p es n c a w l =
    let before = softened c a es in
    let softens = softened-softens p c a es w.attempts in
    let well = softened-well c a es w in
    let settles = settled-settles p before well.once (softens-lawful (meaning p es) (meaning p before) c a softens l) in
    let settled_well = settled-well p before well in
    record {
      decides = record {
        changed = meaning p before;
        softens = softens;
        settles = settles;
        replies_are = replies-are n p before (settled p before) (message.Softened n c a) (settle-in-step p [] before) well.once settled_well.attempts settles;
      };
      well_formed = settled_well;
      lawful = settles.lawful;
      caused = settles.caused;
    }

none-for : {A : Type 0} → false ≡ true → A
none-for h = absurd (let z : false ≡ true = h in cc)

pub decision-allowed : (p : Problem) (es : List Entry) (message : Message) (n : ℕ) → is_for_node message n ≡ true →
    IsWellFormed es → IsLawful (meaning p es) → IsCaused (meaning p es) → IsAllowed p es message
decision-allowed p es (Request k t) n for w l c = asked-allowed p es k t w l c
decision-allowed p es (Release k d a) n for w l c = released-allowed p es k d a w l
decision-allowed p es (Grant k t) n for w l c = none-for for
decision-allowed p es (Busy k t) n for w l c = none-for for
decision-allowed p es (Over k d a) n for w l c = none-for for
decision-allowed p es (Done k d a) n for w l c = none-for for
decision-allowed p es (Muddled k d a) n for w l c = none-for for
decision-allowed p es (Soften k d a) n for w l c = softened-allowed p es k d a w l
decision-allowed p es (message.Softened k d a) n for w l c = none-for for

-- floors

ends-floor : (s t : Station) (c a : ℕ) → Ends s c a t → (d : ℕ) → (s.at d).floor ≤ (t.at d).floor
ends-floor s t c a e d = go (cases_eq d c)
  where
    at_c : EndsAt a (s.at c) e.0 → (s.at c).floor ≤ (t.at c).floor
    at_c (inl h) = let f : (t.at c).floor ≡ (s.at c).floor = ap (λ (w : Standing). w.floor) (e.2.here ∙ h.1) in omega arith
    at_c (inr h) = let f : (t.at c).floor ≡ a = ap (λ (w : Standing). w.floor) (e.2.here ∙ h.1) in let g : (s.at c).floor < a = h.0 in omega arith

    go : (d ≡ c) ⊎ (d ≢ c) → (s.at d).floor ≤ (t.at d).floor
    go (inl same) = subst (λ n. (s.at n).floor ≤ (t.at n).floor) (sym same) (at_c e.1)
    go (inr apart) = let f : (t.at d).floor ≡ (s.at d).floor = ap (λ (w : Standing). w.floor) (e.2.others d apart) in omega arith

same-floor : (s t : Station) (c : ℕ) → t ≡ s → (s.at c).floor ≤ (t.at c).floor
same-floor s t c e = let f : (t.at c).floor ≡ (s.at c).floor = ap (λ (w : Station). (w.at c).floor) e in omega arith

taken-floor : (s e f t : Station) (k : Ticket) (status : Status) → IsNew (s.at k.client) k.attempt → Ends s k.client (k.attempt - 1) e → Settles e f →
    Puts f k.client (taken_up k status) t → (d : ℕ) → (s.at d).floor ≤ (t.at d).floor
taken-floor s e f t k status new ends settles puts d = go (cases_eq d k.client) new
  where
    at_c : IsNew (s.at k.client) k.attempt → (s.at k.client).floor ≤ (t.at k.client).floor
    at_c (inl n) = let g : (t.at k.client).floor ≡ k.attempt - 1 = ap (λ (w : Standing). w.floor) puts.here in let h : (s.at k.client).floor + 1 < k.attempt = n in omega arith
    at_c (inr n) = let g : (t.at k.client).floor ≡ k.attempt - 1 = ap (λ (w : Standing). w.floor) puts.here in let h : k.attempt ≡ (s.at k.client).floor + 1 = n.0 in omega arith

    go : (d ≡ k.client) ⊎ (d ≢ k.client) → IsNew (s.at k.client) k.attempt → (s.at d).floor ≤ (t.at d).floor
    go (inl same) n = subst (λ q. (s.at q).floor ≤ (t.at q).floor) (sym same) (at_c n)
    go (inr apart) n =
        let g : (t.at d).floor ≡ (f.at d).floor = ap (λ (w : Standing). w.floor) (puts.others d apart) in
        let h : (f.at d).floor ≡ (e.at d).floor = settles.floors d in
        let i : (s.at d).floor ≤ (e.at d).floor = ends-floor s e k.client (k.attempt - 1) ends d in
        omega arith

asked-floor : (n : ℕ) (s : Station) (k : Ticket) (t : Station) (replies : List Message) → IsAsked n s k t replies → (c : ℕ) → (s.at c).floor ≤ (t.at c).floor
asked-floor n s k t replies (over a e r) c = same-floor s t c e
asked-floor n s k t replies (muddled m x v a b d e r) c = same-floor s t c e
asked-floor n s k t replies (held a b e r) c = same-floor s t c e
asked-floor n s k t replies (waited a b e r) c = same-floor s t c e
asked-floor n s k t replies (Decision.softened a m b e r) c = same-floor s t c e
asked-floor n s k t replies (granted new e f ends settles free puts r) c = taken-floor s e f t k Holding new ends settles puts c
asked-floor n s k t replies (queued new e f ends settles cause puts r) c = taken-floor s e f t k Waiting new ends settles puts c

released-floor : (n : ℕ) (s : Station) (c a : ℕ) (t : Station) (replies : List Message) → IsReleased n s c a t replies → (d : ℕ) → (s.at d).floor ≤ (t.at d).floor
released-floor n s c a t replies r d =
    let i : (s.at d).floor ≤ ((r.ended).at d).floor = ends-floor s r.ended c a r.ends d in
    let h : (t.at d).floor ≡ ((r.ended).at d).floor = (r.settles).floors d in
    omega arith

softens-floor : (a : ℕ) (before after : Standing) → SoftensAt a before after → after.floor ≡ before.floor
softens-floor a before after (holder x now claim) = refl
softens-floor a before after (waiter x now claim) = refl
softens-floor a before after (neither other) = refl

softened-floor : (n : ℕ) (s : Station) (c a : ℕ) (t : Station) (replies : List Message) → IsSoftened n s c a t replies → (d : ℕ) → (s.at d).floor ≤ (t.at d).floor
softened-floor n s c a t replies r d =
    let i : ((r.changed).at d).floor ≡ (s.at d).floor = go (cases_eq d c) in
    let h : (t.at d).floor ≡ ((r.changed).at d).floor = (r.settles).floors d in
    omega arith
  where
    at_c : ((r.changed).at c).floor ≡ (s.at c).floor
    at_c = ap (λ (w : Standing). w.floor) r.softens.2.here ∙ softens-floor a (s.at c) r.softens.0 r.softens.1

    go : (d ≡ c) ⊎ (d ≢ c) → ((r.changed).at d).floor ≡ (s.at d).floor
    go (inl same) = subst (λ q. ((r.changed).at q).floor ≡ (s.at q).floor) (sym same) at_c
    go (inr apart) = ap (λ (w : Standing). w.floor) (r.softens.2.others d apart)

pub floors-never-fall : (s t : Station) (message : Message) (replies : List Message) → Decides s message t replies → (c : ℕ) → (s.at c).floor ≤ (t.at c).floor
floors-never-fall s t (Request n k) replies d c = asked-floor n s k t replies d c
floors-never-fall s t (Release n e a) replies d c = released-floor n s e a t replies d c
floors-never-fall s t (Grant n k) replies d c = absurd d
floors-never-fall s t (Busy n k) replies d c = absurd d
floors-never-fall s t (Over n e a) replies d c = absurd d
floors-never-fall s t (Done n e a) replies d c = absurd d
floors-never-fall s t (Muddled n e a) replies d c = absurd d
floors-never-fall s t (Soften n e a) replies d c = softened-floor n s e a t replies d c
floors-never-fall s t (message.Softened n e a) replies d c = absurd d

pub ended-stays : (s t : Station) (message : Message) (replies : List Message) → Decides s message t replies → (c a : ℕ) → IsEnded s c a → IsEnded t c a
ended-stays s t message replies d c a h = omega (arith, floors-never-fall s t message replies d c)
