-- Settling by going over the clients that wait for one resource.
use Rattle.std.proofs.Common.{◌≡◌, ℕ, zero, suc, ◌+◌, ◌<◌, ◌≤◌, ◌==◌, Bool, true, false, ◌||◌, ◌&&◌, cond, List, [], ◌∷◌, ◌++◌, length, map, filter, take, drop, is_some, Option, Some, None, set, slice_get, refl, sym, ap, ◌∙◌, subst, arith}
use Rattle.std.specs.Str.{bytes_eq}
use Rattle.std.specs.Option.{option_map}
use Rattle.std.proofs.lemmas.Bool.{eqb-true, eq-eqb, and_parts}
use Rattle.std.proofs.lemmas.List.{append_assoc}
use Rattle.lock_messages.specs.declared.ids.TheConstants.{MAX_CLIENTS}
use Rattle.lock_messages.specs.declared.messages.Message.{Message}
use Rattle.lock_model.specs.declared.entries.Entry.{Entry}
use Rattle.lock_model.specs.declared.entries.Live.{Live}
use Rattle.lock_model.specs.declared.problems.Problem.{Problem}
use Rattle.lock_model.specs.ExactStations.{is_of, knows, entry_of, EachOnce, is_waiting, if_live, admits, promoted, settled_live, settled_entry, settle, settled}
use Rattle.lock_model.specs.ExactDecisions.{told, grants, grant_of, live_in}
use Rattle.stable_record.specs.EntryLists.{replaced}
use Rattle.stable_record.specs.Lines.{waits_for, clients_of, count_live}
use Rattle.stable_record.specs.Indexing.{IsEntryAmong, with_holding}
use Rattle.stable_record.proofs.JudgingFacts.{knows-at, seam}
use Rattle.stable_record.proofs.ListFacts.{replaced-unknown}
use Rattle.stable_record.proofs.QuestionFacts.{clients-count}
use Rattle.voter_core.specs.Freed.{is_freed, OthersStay}
use Rattle.voter_core.specs.Voters.{admitted_now}
use Rattle.voter_core.specs.Queues.{settle_by, told_by, settle_one, settle_each, told_one, told_each}
use Rattle.voter_core.proofs.EntryFacts.{replaced-at, set-same, settled-same, none-of}
use Rattle.voter_core.proofs.EndFacts.{known-entry}
use Rattle.voter_core.proofs.FreedFacts.{all-at, others-settled, told-nothing}

-- ---- an entry in its place

pub set-seam : (front rest : List Entry) (e f : Entry) → set (front ++ e ∷ rest) (length front) f ≡ front ++ f ∷ rest
set-seam [] rest e f = refl
set-seam (d ∷ front) rest e f = ap (λ (l : List Entry). d ∷ l) (set-seam front rest e f)

knows-set : (c : ℕ) (es : List Entry) (i : ℕ) (e f : Entry) → slice_get es i ≡ Some e → f.client ≡ e.client → knows c (set es i f) ≡ knows c es
knows-set c [] i e f at same = refl
knows-set c (d ∷ es) zero e f at same =
    let is : d ≡ e = cc in
    ap (λ k. (k == c) || knows c es) (same ∙ ap (λ (x : Entry). x.client) (sym is))
knows-set c (d ∷ es) (suc i) e f at same = ap (λ b. is_of c d || b) (knows-set c es i e f at same)

once-set : (es : List Entry) (i : ℕ) (e f : Entry) → slice_get es i ≡ Some e → f.client ≡ e.client → EachOnce es → EachOnce (set es i f)
once-set [] i e f at same once = once
once-set (d ∷ es) zero e f at same once =
    let is : d ≡ e = cc in
    (ap (λ k. knows k es) (same ∙ ap (λ (x : Entry). x.client) (sym is)) ∙ once.0, once.1)
once-set (d ∷ es) (suc i) e f at same once = (knows-set d.client es i e f at same ∙ once.0, once-set es i e f at same once.1)

-- the entry at a place is that of its client
pub found-at : (es : List Entry) (i : ℕ) (e : Entry) → EachOnce es → slice_get es i ≡ Some e → entry_of es e.client ≡ Some e
found-at [] i e once at = cc
found-at (d ∷ es) zero e once at =
    let is : d ≡ e = cc in
    ap (λ b. cond b (Some d) (entry_of es e.client)) (eq-eqb d.client e.client (ap (λ (x : Entry). x.client) is)) ∙ ap (λ x. Some x) is
found-at (d ∷ es) (suc i) e once at = go (found-at es i e once.1 at) (is_of e.client d) refl
  where
    go : entry_of es e.client ≡ Some e → (b : Bool) → is_of e.client d ≡ b → entry_of (d ∷ es) e.client ≡ Some e
    go rest true is =
        let clash : true ≡ false = sym (knows-at es i e at) ∙ ap (λ k. knows k es) (sym (eqb-true d.client e.client is)) ∙ once.0 in
        cc
    go rest false is = ap (λ b. cond b (Some d) (entry_of es e.client)) is ∙ rest

-- an entry that is found stands at a place
pub place-of : (c : ℕ) (es : List Entry) (e : Entry) → entry_of es c ≡ Some e → (i : ℕ) × (slice_get es i ≡ Some e) × (e.client ≡ c)
place-of c [] e h = cc
place-of c (d ∷ es) e h = go (λ k. place-of c es e k) (is_of c d) refl
  where
    go : (entry_of es c ≡ Some e → (i : ℕ) × (slice_get es i ≡ Some e) × (e.client ≡ c)) → (b : Bool) → is_of c d ≡ b → (i : ℕ) × (slice_get (d ∷ es) i ≡ Some e) × (e.client ≡ c)
    go more true is =
        let z : Some d ≡ Some e = sym (ap (λ b. cond b (Some d) (entry_of es c)) is) ∙ h in
        let same : d ≡ e = cc in
        (0, z, sym (ap (λ (x : Entry). x.client) same) ∙ eqb-true d.client c is)
    go more false is =
        let m = more (sym (ap (λ b. cond b (Some d) (entry_of es c)) is) ∙ h) in
        (suc m.0, m.1, m.2)

-- ---- one client settles

pub one-at : (p : Problem) (es : List Entry) (i : ℕ) (e : Entry) → EachOnce es → slice_get es i ≡ Some e → settle_one p e.client es ≡ set es i (settled_entry p es e)
one-at p es i e once at =
    ap (settle_by p es) (found-at es i e once at) ∙ replaced-at es i e (settled_entry p es e) once at refl

-- entries of clients that have one each stay so
pub once-one : (p : Problem) (c : ℕ) (es : List Entry) → EachOnce es → EachOnce (settle_one p c es)
once-one p c es once = go (entry_of es c) refl
  where
    go : (o : Option Entry) → entry_of es c ≡ o → EachOnce (settle_by p es o)
    go None is = once
    go (Some e) is =
        let place = place-of c es e is in
        subst EachOnce (sym (replaced-at es place.0 e (settled_entry p es e) once place.1 refl)) (once-set es place.0 e (settled_entry p es e) place.1 refl once)

-- tickets for other resources still stay
pub others-one : (p : Problem) (x : List ℕ) (c : ℕ) (es : List Entry) → EachOnce es → OthersStay p (Some x) es → OthersStay p (Some x) (settle_one p c es)
others-one p x c es once others = go (entry_of es c) refl
  where
    go : (o : Option Entry) → entry_of es c ≡ o → OthersStay p (Some x) (settle_by p es o)
    go None is = others
    go (Some e) is =
        let place = place-of c es e is in
        subst (OthersStay p (Some x)) (sym (replaced-at es place.0 e (settled_entry p es e) once place.1 refl)) (others-settled p x es place.0 e others place.1)

-- ---- settling is going over those that wait for the freed resource

-- a ticket that doesn't wait for it stays
not-waiting : (p : Problem) (x : List ℕ) (es : List Entry) (i client floor : ℕ) (live : Option Live) → OthersStay p (Some x) es → slice_get es i ≡ Some (record { client = client; floor = floor; live = live }) →
    if_live (waits_for x) live ≡ false → settled_entry p es (record { client = client; floor = floor; live = live }) ≡ record { client = client; floor = floor; live = live }
not-waiting p x es i client floor None others at h = refl
not-waiting p x es i client floor (Some l) others at h = go (is_waiting l.status) refl (bytes_eq l.resource x) refl
  where
    e : Entry
    e = record { client = client; floor = floor; live = Some l }

    go : (w : Bool) → is_waiting l.status ≡ w → (b : Bool) → bytes_eq l.resource x ≡ b → settled_entry p es (record { client = client; floor = floor; live = Some l }) ≡ record { client = client; floor = floor; live = Some l }
    go w is false other = all-at (λ d. if_live (is_freed (Some x)) d.live ≡ false → settled_entry p es d ≡ d) es i (record { client = client; floor = floor; live = Some l }) others at other
    go false is true here = ap (λ b. record { client = client; floor = floor; live = Some (cond (b && admits p l.mode l.resource es) (promoted l) l) }) is
    go true is true here =
        let z : true ≡ false = sym (ap (λ b. b && bytes_eq l.resource x) is ∙ here) ∙ h in
        cc

abbrev pub Walks : Problem → ℕ → List ℕ → List Entry → List Entry → Type 0
Walks p n cs front rest = (settle_each p cs (front ++ rest) ≡ front ++ settle p front rest) × (told_each p n cs (front ++ rest) ≡ grants n rest (settle p front rest))

walk : (p : Problem) (n : ℕ) (x : List ℕ) (front rest : List Entry) → EachOnce (front ++ rest) → OthersStay p (Some x) (front ++ rest) → Walks p n (clients_of (waits_for x) rest) front rest
walk p n x front [] once others = (refl, refl)
walk p n x front (e ∷ rest) once others = go (λ g. walk p n x (front ++ g ∷ []) rest) (if_live (waits_for x) e.live) refl
  where
    es : List Entry
    es = front ++ e ∷ rest

    f : Entry
    f = settled_entry p (front ++ e ∷ rest) e

    left : List Entry
    left = filter (λ d. if_live (waits_for x) d.live) rest

    joined : (g : Entry) → front ++ g ∷ rest ≡ (front ++ g ∷ []) ++ rest
    joined g = sym (append_assoc front (g ∷ []) rest)

    made : settle_one p e.client (front ++ e ∷ rest) ≡ (front ++ settled_entry p (front ++ e ∷ rest) e ∷ []) ++ rest
    made = one-at p (front ++ e ∷ rest) (length front) e once (seam front rest e) ∙ set-seam front rest e (settled_entry p (front ++ e ∷ rest) e) ∙ joined (settled_entry p (front ++ e ∷ rest) e)

    heard : told_one p n e.client (front ++ e ∷ rest) ≡ told n e (settled_entry p (front ++ e ∷ rest) e)
    heard = ap (told_by p n (front ++ e ∷ rest)) (found-at (front ++ e ∷ rest) (length front) e once (seam front rest e))

    go : ((g : Entry) → EachOnce ((front ++ g ∷ []) ++ rest) → OthersStay p (Some x) ((front ++ g ∷ []) ++ rest) → Walks p n (clients_of (waits_for x) rest) (front ++ g ∷ []) rest) →
        (b : Bool) → if_live (waits_for x) e.live ≡ b → Walks p n (map (λ (d : Entry). d.client) (cond b (e ∷ filter (λ d. if_live (waits_for x) d.live) rest) (filter (λ d. if_live (waits_for x) d.live) rest))) front (e ∷ rest)
    go more true is =
        let cs = clients_of (waits_for x) rest in
        let rec = more (settled_entry p (front ++ e ∷ rest) e) (subst EachOnce made (once-one p e.client (front ++ e ∷ rest) once)) (subst (OthersStay p (Some x)) made (others-one p x e.client (front ++ e ∷ rest) once others)) in (
          ap (settle_each p cs) made ∙ rec.0 ∙ append_assoc front (settled_entry p (front ++ e ∷ rest) e ∷ []) (settle p (front ++ settled_entry p (front ++ e ∷ rest) e ∷ []) rest),
          ap (λ ms. ms ++ told_each p n cs (settle_one p e.client (front ++ e ∷ rest))) heard ∙ ap (λ ms. told n e (settled_entry p (front ++ e ∷ rest) e) ++ ms) (ap (told_each p n cs) made ∙ rec.1),
        )
    go more false is =
        let cs = clients_of (waits_for x) rest in
        let idle : settled_entry p (front ++ e ∷ rest) e ≡ e = not-waiting p x (front ++ e ∷ rest) (length front) e.client e.floor e.live others (seam front rest e) is in
        let rec = more e (subst EachOnce (joined e) once) (subst (OthersStay p (Some x)) (joined e) others) in (
          ap (settle_each p cs) (joined e) ∙ rec.0 ∙ append_assoc front (e ∷ []) (settle p (front ++ e ∷ []) rest) ∙ ap (λ g. front ++ g ∷ settle p (front ++ g ∷ []) rest) (sym idle),
          ap (told_each p n cs) (joined e) ∙ rec.1 ∙ ap (λ ms. ms ++ grants n rest (settle p (front ++ e ∷ []) rest)) (sym (told-nothing n e.client e.floor e.live))
              ∙ ap (λ g. told n e g ++ grants n rest (settle p (front ++ g ∷ []) rest)) (sym idle),
        )

pub settled-each : (p : Problem) (x : List ℕ) (es : List Entry) → EachOnce es → OthersStay p (Some x) es → settle_each p (clients_of (waits_for x) es) es ≡ settled p es
settled-each p x es once others = (walk p 0 x [] es once others).0

pub told-each : (p : Problem) (n : ℕ) (x : List ℕ) (es : List Entry) → EachOnce es → OthersStay p (Some x) es → told_each p n (clients_of (waits_for x) es) es ≡ grants n es (settled p es)
told-each p n x es once others = (walk p n x [] es once others).1

-- ---- who waits, found by the place in the queue

abbrev Waits : (Live → Bool) → ℕ → List Entry → Type 0
Waits test c es = (e : Entry) × (entry_of es c ≡ Some e) × (if_live test e.live ≡ true)

known-found : (c : ℕ) (es : List Entry) (e : Entry) → entry_of es c ≡ Some e → knows c es ≡ true
known-found c es e h = (known-entry c es e h).0

-- where another client has the first entry, it is passed
found-behind : (test : Live → Bool) (c : ℕ) (d : Entry) (es : List Entry) → knows d.client es ≡ false → Waits test c es → (is_of c d ≡ false) × Waits test c (d ∷ es)
found-behind test c d es none w = go (is_of c d) refl
  where
    go : (b : Bool) → is_of c d ≡ b → (is_of c d ≡ false) × Waits test c (d ∷ es)
    go true is =
        let clash : true ≡ false = sym (known-found c es w.0 w.1) ∙ ap (λ k. knows k es) (sym (eqb-true d.client c is)) ∙ none in
        cc
    go false is = (is, (w.0, ap (λ b. cond b (Some d) (entry_of es c)) is ∙ w.1, w.2))

pub waits-at : (test : Live → Bool) (es : List Entry) (k c : ℕ) → EachOnce es → slice_get (clients_of test es) k ≡ Some c → Waits test c es
waits-at test [] k c once at = cc
waits-at test (d ∷ es) k c once at = go (λ j. waits-at test es j c once.1) (if_live test d.live) refl k at
  where
    left : List Entry
    left = filter (λ e. if_live test e.live) es

    go : ((j : ℕ) → slice_get (clients_of test es) j ≡ Some c → Waits test c es) → (b : Bool) → if_live test d.live ≡ b → (k : ℕ) →
        slice_get (map (λ (e : Entry). e.client) (cond b (d ∷ left) left)) k ≡ Some c → Waits test c (d ∷ es)
    go more true is zero at =
        let same : d.client ≡ c = cc in
        (d, ap (λ b. cond b (Some d) (entry_of es c)) (eq-eqb d.client c same), is)
    go more true is (suc j) at = (found-behind test c d es once.0 (more j at)).1
    go more false is j at = (found-behind test c d es once.0 (more j at)).1

-- once the one at a place of the queue waits no more, it is gone from there
queue-left : (test : Live → Bool) (es : List Entry) (k c : ℕ) (f : Entry) → EachOnce es → slice_get (clients_of test es) k ≡ Some c → f.client ≡ c → if_live test f.live ≡ false →
    clients_of test (replaced f es) ≡ take k (clients_of test es) ++ drop (suc k) (clients_of test es)
queue-left test [] k c f once at same off = cc
queue-left test (d ∷ es) k c f once at same off = go (λ j h. queue-left test es j c f once.1 h same off) (if_live test d.live) refl k at
  where
    left : List Entry
    left = filter (λ e. if_live test e.live) es

    after : List Entry
    after = filter (λ e. if_live test e.live) (replaced f es)

    names : List Entry → List ℕ
    names l = map (λ (e : Entry). e.client) l

    other : Waits test c es → replaced f (d ∷ es) ≡ d ∷ replaced f es
    other w = ap (λ b. cond b f d ∷ replaced f es) (ap (λ k. d.client == k) same ∙ (found-behind test c d es once.0 w).0)

    go : ((j : ℕ) → slice_get (clients_of test es) j ≡ Some c → clients_of test (replaced f es) ≡ take j (clients_of test es) ++ drop (suc j) (clients_of test es)) → (b : Bool) → if_live test d.live ≡ b → (k : ℕ) →
        slice_get (map (λ (e : Entry). e.client) (cond b (d ∷ left) left)) k ≡ Some c →
        clients_of test (replaced f (d ∷ es)) ≡ take k (map (λ (e : Entry). e.client) (cond b (d ∷ left) left)) ++ drop (suc k) (map (λ (e : Entry). e.client) (cond b (d ∷ left) left))
    go more true is zero at =
        let here : d.client ≡ c = cc in
        let gone : replaced f es ≡ es = replaced-unknown f es (ap (λ k. knows k es) (same ∙ sym here) ∙ once.0) in
        ap (λ b. clients_of test (cond b f d ∷ replaced f es)) (eq-eqb d.client f.client (here ∙ sym same))
        ∙ ap (λ l. clients_of test (f ∷ l)) gone ∙ ap (λ b. names (cond b (f ∷ left) left)) off
    go more true is (suc j) at =
        ap (clients_of test) (other (waits-at test es j c once.1 at))
        ∙ ap (λ b. names (cond b (d ∷ after) after)) is
        ∙ ap (λ (l : List ℕ). d.client ∷ l) (more j at)
    go more false is j at =
        ap (clients_of test) (other (waits-at test es j c once.1 at))
        ∙ ap (λ b. names (cond b (d ∷ after) after)) is
        ∙ more j at

some-name : (w : List ℕ) (j : ℕ) → j < length w → (c : ℕ) × (slice_get w j ≡ Some c)
some-name [] j h = absurd (omega arith)
some-name (d ∷ w) zero h = (d, refl)
some-name (d ∷ w) (suc j) h = some-name w j (omega arith)

pub drop-next : (w : List ℕ) (k c : ℕ) → slice_get w k ≡ Some c → drop k w ≡ c ∷ drop (suc k) w
drop-next [] k c at = cc
drop-next (d ∷ w) zero c at = let is : d ≡ c = cc in ap (λ y. y ∷ w) is
drop-next (d ∷ w) (suc k) c at = drop-next w k c at

drop-gone : (w : List ℕ) (k c : ℕ) → slice_get w k ≡ Some c → drop k (take k w ++ drop (suc k) w) ≡ drop (suc k) w
drop-gone [] k c at = cc
drop-gone (d ∷ w) zero c at = refl
drop-gone (d ∷ w) (suc k) c at = drop-gone w k c at

length-gone : (w : List ℕ) (k c : ℕ) → slice_get w k ≡ Some c → length (take k w ++ drop (suc k) w) + 1 ≡ length w
length-gone [] k c at = cc
length-gone (d ∷ w) zero c at = omega arith
length-gone (d ∷ w) (suc k) c at = let h = length-gone w k c at in omega (arith, h)

pub names-length : (es : List Entry) → length (map (λ (e : Entry). e.client) es) ≡ length es
names-length [] = refl
names-length (e ∷ es) = ap (λ n. suc n) (names-length es)

-- a place of the queue before its end has a client
pub name-at : (test : Live → Bool) (es : List Entry) (k : ℕ) → k < count_live test es → (c : ℕ) × (slice_get (clients_of test es) k ≡ Some c)
name-at test es k below = let size = clients-count test es in some-name (clients_of test es) k (omega (arith, size, below))

-- ---- a client's turn

some-of : (o : Option Live) → is_some o ≡ true → (m : Live) × (o ≡ Some m)
some-of None h = cc
some-of (Some m) h = (m, refl)

pub admitted-when : (p : Problem) (es : List Entry) (l m : Live) → admitted_now p es (Some l) ≡ Some m → (is_waiting l.status && admits p l.mode l.resource es) ≡ true
admitted-when p es l m h = go (is_waiting l.status && admits p l.mode l.resource es) refl
  where
    go : (b : Bool) → (is_waiting l.status && admits p l.mode l.resource es) ≡ b → (is_waiting l.status && admits p l.mode l.resource es) ≡ true
    go true e = e
    go false e = let z : None ≡ Some m = sym (ap (λ b. cond b (Some (promoted l)) None) e) ∙ h in cc

pub now-turns : (p : Problem) (es : List Entry) (l : Live) (o : Option Live) → o ≡ Some l → is_waiting l.status ≡ true → admits p l.mode l.resource es ≡ true → Some (promoted l) ≡ admitted_now p es o
now-turns p es l o is waits adm = sym (ap (admitted_now p es) is ∙ ap (λ b. cond (b && admits p l.mode l.resource es) (Some (promoted l)) None) waits ∙ ap (λ b. cond b (Some (promoted l)) None) adm)

pub now-holds : (p : Problem) (es : List Entry) (l : Live) (o : Option Live) → o ≡ Some l → is_waiting l.status ≡ false → None ≡ admitted_now p es o
now-holds p es l o is waits = sym (ap (admitted_now p es) is ∙ ap (λ b. cond (b && admits p l.mode l.resource es) (Some (promoted l)) None) waits)

pub now-refused : (p : Problem) (es : List Entry) (l : Live) (o : Option Live) → o ≡ Some l → is_waiting l.status ≡ true → admits p l.mode l.resource es ≡ false → None ≡ admitted_now p es o
now-refused p es l o is waits adm = sym (ap (admitted_now p es) is ∙ ap (λ b. cond (b && admits p l.mode l.resource es) (Some (promoted l)) None) waits ∙ ap (λ b. cond b (Some (promoted l)) None) adm)

-- whose turn it is holds
pub turned-live : (p : Problem) (es : List Entry) (live : Option Live) (m : Live) → admitted_now p es live ≡ Some m → option_map promoted live ≡ Some m
turned-live p es None m h = cc
turned-live p es (Some l) m h = sym (ap (λ b. cond b (Some (promoted l)) None) (admitted-when p es l m h)) ∙ h

turned-settled : (p : Problem) (es : List Entry) (live : Option Live) (m : Live) → admitted_now p es live ≡ Some m → option_map (settled_live p es) live ≡ option_map promoted live
turned-settled p es None m h = cc
turned-settled p es (Some l) m h = ap (λ b. Some (cond b (promoted l) l)) (admitted-when p es l m h)

turned-told : (p : Problem) (n : ℕ) (es : List Entry) (client floor : ℕ) (live : Option Live) (m : Live) → admitted_now p es live ≡ Some m →
    told n (record { client = client; floor = floor; live = live }) (record { client = client; floor = floor; live = option_map promoted live }) ≡ grant_of n client (Some m)
turned-told p n es client floor None m h = cc
turned-told p n es client floor (Some l) m h =
    let waits = (and_parts (is_waiting l.status) (admits p l.mode l.resource es) (admitted-when p es l m h)).0 in
    ap (λ b. cond (b && true) (grant_of n client (Some (promoted l))) []) waits ∙ ap (grant_of n client) (turned-live p es (Some l) m h)

turned-off : (p : Problem) (x : List ℕ) (es : List Entry) (live : Option Live) (m : Live) → admitted_now p es live ≡ Some m → if_live (waits_for x) (option_map promoted live) ≡ false
turned-off p x es None m h = refl
turned-off p x es (Some l) m h = refl

idle-turn : (p : Problem) (es : List Entry) (c : ℕ) (e : Entry) → EachOnce es → entry_of es c ≡ Some e → settled_entry p es e ≡ e → replaced (settled_entry p es e) es ≡ es
idle-turn p es c e once found idle =
    let place = place-of c es e found in
    ap (λ f. replaced f es) idle ∙ replaced-at es place.0 e e once place.1 refl ∙ set-same es place.0 e place.1

pub turn-stays : (p : Problem) (n c : ℕ) (es : List Entry) (e : Entry) → EachOnce es → entry_of es c ≡ Some e → admitted_now p es e.live ≡ None →
    (es ≡ settle_one p c es) × (told_one p n c es ≡ []) × (is_some (admitted_now p es (live_in (entry_of es c))) ≡ false)
turn-stays p n c es e once found none =
    let idle : settled_entry p es e ≡ e = settled-same p es e.client e.floor e.live none in (
      sym (ap (settle_by p es) found ∙ idle-turn p es c e once found idle),
      ap (told_by p n es) found ∙ ap (told n e) idle ∙ told-nothing n e.client e.floor e.live,
      ap (λ o. is_some (admitted_now p es (live_in o))) found ∙ ap is_some none,
    )

pub turn-holds : (p : Problem) (n c : ℕ) (es : List Entry) (e : Entry) (m : Live) → entry_of es c ≡ Some e → admitted_now p es e.live ≡ Some m →
    (replaced (with_holding e) es ≡ settle_one p c es) × (told_one p n c es ≡ grant_of n e.client (Some m)) × (is_some (admitted_now p es (live_in (entry_of es c))) ≡ true)
turn-holds p n c es e m found some =
    let turned : settled_entry p es e ≡ with_holding e = ap (λ o. record { client = e.client; floor = e.floor; live = o }) (turned-settled p es e.live m some) in (
      sym (ap (settle_by p es) found ∙ ap (λ f. replaced f es) turned),
      ap (told_by p n es) found ∙ ap (told n e) turned ∙ turned-told p n es e.client e.floor e.live m some,
      ap (λ o. is_some (admitted_now p es (live_in o))) found ∙ ap is_some some,
    )

pub among : (c : ℕ) (es : List Entry) (e : Entry) → EachOnce es → length es ≤ MAX_CLIENTS → entry_of es c ≡ Some e → IsEntryAmong e es
among c es e once few found = record { once = once; few = few; found = ap (entry_of es) (known-entry c es e found).1 ∙ found }

-- ---- the queue, one turn after the other

-- those of the queue before this place have settled, and what is left is to settle the others
pub record QueueSettled (p : Problem) (n : ℕ) (x : List ℕ) (old : List Entry) (first : List Message) (place : ℕ) (now : List Entry) (replies : List Message) : Type 0 where
  pub goes_on : settle_each p (drop place (clients_of (waits_for x) now)) now ≡ settled p old
  pub told_so : replies ++ told_each p n (drop place (clients_of (waits_for x) now)) now ≡ first ++ grants n old (settled p old)

pub queue-first : (p : Problem) (n : ℕ) (x : List ℕ) (old : List Entry) (first : List Message) → EachOnce old → OthersStay p (Some x) old → QueueSettled p n x old first 0 old first
queue-first p n x old first once others = record { goes_on = settled-each p x old once others; told_so = ap (λ ms. first ++ ms) (told-each p n x old once others) }

-- the next of the queue
queue-next : (p : Problem) (n : ℕ) (x : List ℕ) (old : List Entry) (first : List Message) (place c : ℕ) (now : List Entry) (replies : List Message) → QueueSettled p n x old first place now replies →
    slice_get (clients_of (waits_for x) now) place ≡ Some c → (j : ℕ) (new : List Entry) (more : List Message) → new ≡ settle_one p c now → more ≡ replies ++ told_one p n c now →
    drop j (clients_of (waits_for x) new) ≡ drop (suc place) (clients_of (waits_for x) now) → QueueSettled p n x old first j new more
queue-next p n x old first place c now replies q at j new more made said same =
    let cs = drop (suc place) (clients_of (waits_for x) now) in
    let front : drop place (clients_of (waits_for x) now) ≡ c ∷ cs = drop-next (clients_of (waits_for x) now) place c at in
    record {
      goes_on = ap (λ l. settle_each p l new) same ∙ ap (settle_each p cs) made ∙ ap (λ l. settle_each p l now) (sym front) ∙ q.goes_on;
      told_so = ap (λ l. more ++ told_each p n l new) same ∙ ap (λ es. more ++ told_each p n cs es) made ∙ ap (λ ms. ms ++ told_each p n cs (settle_one p c now)) said
          ∙ append_assoc replies (told_one p n c now) (told_each p n cs (settle_one p c now)) ∙ ap (λ l. replies ++ told_each p n l now) (sym front) ∙ q.told_so;
    }

-- where the client becomes a holder, the next one stands at its place
pub queue-holds : (p : Problem) (n : ℕ) (x : List ℕ) (old : List Entry) (first : List Message) (place c : ℕ) (now : List Entry) (replies : List Message) → QueueSettled p n x old first place now replies →
    EachOnce now → slice_get (clients_of (waits_for x) now) place ≡ Some c → (new : List Entry) (more : List Message) → new ≡ settle_one p c now → more ≡ replies ++ told_one p n c now →
    is_some (admitted_now p now (live_in (entry_of now c))) ≡ true → QueueSettled p n x old first place new more × (count_live (waits_for x) new + 1 ≡ count_live (waits_for x) now)
queue-holds p n x old first place c now replies q once at new more made said holds =
    let w = waits-at (waits_for x) now place c once at in
    let m = some-of (admitted_now p now w.0.live) (sym (ap (λ o. is_some (admitted_now p now (live_in o))) w.1) ∙ holds) in
    let is = turn-holds p n c now w.0 m.0 w.1 m.1 in
    let left = queue-left (waits_for x) now place c (with_holding w.0) once at (known-entry c now w.0 w.1).1 (turned-off p x now w.0.live m.0 m.1) in
    let after : clients_of (waits_for x) new ≡ take place (clients_of (waits_for x) now) ++ drop (suc place) (clients_of (waits_for x) now) = ap (clients_of (waits_for x)) (made ∙ sym is.0) ∙ left in
    let gone = drop-gone (clients_of (waits_for x) now) place c at in
    let size = length-gone (clients_of (waits_for x) now) place c at in
    let lengths : length (clients_of (waits_for x) new) + 1 ≡ length (clients_of (waits_for x) now) = ap (λ l. length l + 1) after ∙ size in
    let a = clients-count (waits_for x) new in
    let b = clients-count (waits_for x) now in
    (queue-next p n x old first place c now replies q at place new more made said (ap (drop place) after ∙ gone), omega (arith, a, b, lengths))

-- else the next one is behind it
pub queue-stays : (p : Problem) (n : ℕ) (x : List ℕ) (old : List Entry) (first : List Message) (place c : ℕ) (now : List Entry) (replies : List Message) → QueueSettled p n x old first place now replies →
    EachOnce now → slice_get (clients_of (waits_for x) now) place ≡ Some c → (new : List Entry) (more : List Message) → new ≡ settle_one p c now → more ≡ replies ++ told_one p n c now →
    is_some (admitted_now p now (live_in (entry_of now c))) ≡ false → QueueSettled p n x old first (place + 1) new more × (count_live (waits_for x) new ≡ count_live (waits_for x) now)
queue-stays p n x old first place c now replies q once at new more made said stays =
    let w = waits-at (waits_for x) now place c once at in
    let is = turn-stays p n c now w.0 once w.1 (none-of (admitted_now p now w.0.live) (λ m h. let z : true ≡ false = sym (ap is_some h) ∙ sym (ap (λ o. is_some (admitted_now p now (live_in o))) w.1) ∙ stays in cc)) in
    let same : new ≡ now = made ∙ sym is.0 in
    let next : place + 1 ≡ suc place = omega arith in (
      queue-next p n x old first place c now replies q at (place + 1) new more made said (ap (λ l. drop (place + 1) (clients_of (waits_for x) l)) same ∙ ap (λ k. drop k (clients_of (waits_for x) now)) next),
      ap (count_live (waits_for x)) same,
    )
