-- What a decision tells is paid by those that waited: each Grant is of a ticket that waits no more.
use Rattle.std.proofs.Common.{◌≡◌, ◌≢◌, ℕ, ◌+◌, ◌-◌, ◌≤◌, Bool, true, false, not, ◌&&◌, cond, if◌then◌else◌, map, filter, length, List, [], ◌∷◌, ◌++◌, Option, None, Some, refl, sym, ◌∙◌, ap, subst, arith}
use Rattle.std.proofs.lemmas.Bool.{eq-eqb, ne_eqb, eqb-true}
use Rattle.std.proofs.Math.ListN.{length-append}
use Rattle.lock_messages.specs.declared.tickets.Mode.{Mode}
use Rattle.lock_messages.specs.declared.tickets.Ticket.{Ticket}
use Rattle.lock_messages.specs.declared.messages.Message.{Message}
use Rattle.lock_messages.specs.declared.messages.Message.TheVariants.{Grant, Busy}
use Rattle.lock_model.specs.declared.entries.Entry.{Entry}
use Rattle.lock_model.specs.declared.entries.Live.{Live}
use Rattle.lock_model.specs.declared.entries.Status.{Status}
use Rattle.lock_model.specs.declared.entries.Status.TheVariants.{Waiting, Holding, Softened}
use Rattle.lock_model.specs.declared.problems.Problem.{Problem}
use Rattle.lock_model.specs.Stations.{Claim, Free, Has, Standing, Station}
use Rattle.lock_model.specs.ExactStations.{is_of, knows, entry_of, standing_of, meaning, EachOnce, IsWellFormed, is_waiting, is_holding, admits, promoted, settled_entry, settle, settled, waits_in}
use Rattle.lock_model.specs.ExactDecisions.{ended_entry, ended, moved_last, grant_of, told, grants, new_entry, answered, releases}
use Rattle.lock_model.proofs.EntryFacts.{any-none, Middle, once-middle, entry_of-found, entry_of-other}
use Rattle.lock_model.proofs.EntryEdits.{ended-well, settled-well, moved-puts}
use Rattle.world_model.specs.ExactWays.{waiting_count}

-- one entry's part of the count
abbrev pub waits_one : Entry → ℕ
waits_one e = if waits_in (Some e) then 1 else 0

-- Settling: each Grant is of a ticket that waited, and holds now.

told-live : (n c attempt : ℕ) (m : Mode) (x : List ℕ) (s : Status) (b : Bool) →
    let l : Live = record { attempt = attempt; mode = m; resource = x; status = s } in
    let f : Live = cond (is_waiting s && b) (promoted l) l in
    length (cond (is_waiting s && is_holding f.status) (grant_of n c (Some f)) []) + cond (is_waiting f.status) 1 0 ≡ cond (is_waiting s) 1 0
told-live n c attempt m x Waiting true = refl
told-live n c attempt m x Waiting false = refl
told-live n c attempt m x Holding b = refl
told-live n c attempt m x Softened b = refl

told-count : (n : ℕ) (p : Problem) (all : List Entry) (e : Entry) → length (told n e (settled_entry p all e)) + waits_one (settled_entry p all e) ≡ waits_one e
told-count n p all e = go e.live
  where
    go : (o : Option Live) → length (told n (record e { live = o }) (settled_entry p all (record e { live = o }))) + waits_one (settled_entry p all (record e { live = o })) ≡ waits_one (record e { live = o })
    go None = refl
    go (Some l) = told-live n e.client l.attempt l.mode l.resource l.status (admits p l.mode l.resource all)

grants-count : (n : ℕ) (p : Problem) (front es : List Entry) → length (grants n es (settle p front es)) + waiting_count (settle p front es) ≡ waiting_count es
grants-count n p front [] = refl
grants-count n p front (e ∷ rest) =
    let f = settled_entry p (front ++ e ∷ rest) e in
    let after = settle p (front ++ f ∷ []) rest in
    let here = told-count n p (front ++ e ∷ rest) e in
    let there = grants-count n p (front ++ f ∷ []) rest in
    let all = length-append (told n e f) (grants n rest after) in
    omega (arith, here, there, all)

-- Ending attempts, and moving an entry last: nobody comes to wait by it but with this entry.

count-append : (es fs : List Entry) → waiting_count (es ++ fs) ≡ waiting_count es + waiting_count fs
count-append [] fs = omega arith
count-append (e ∷ es) fs = omega (arith, count-append es fs)

count-map : (g : Entry → Entry) → ((e : Entry) → waits_one (g e) ≤ waits_one e) → (es : List Entry) → waiting_count (map g es) ≤ waiting_count es
count-map g le [] = omega arith
count-map g le (e ∷ es) = omega (arith, le e, count-map g le es)

ended-count : (c a : ℕ) (es : List Entry) → waiting_count (ended c a es) ≤ waiting_count es
ended-count c a es = go (knows c es)
  where
    end : (e : Entry) (b : Bool) → waits_one (cond b (record { client = e.client; floor = a; live = None }) e) ≤ waits_one e
    end e true = omega arith
    end e false = omega arith

    one : (e : Entry) (b : Bool) → waits_one (cond b (ended_entry a e) e) ≤ waits_one e
    one e true = end e _
    one e false = omega arith

    go : (b : Bool) → waiting_count (cond b (map (λ e. if is_of c e then ended_entry a e else e) es) (es ++ record { client = c; floor = a; live = None } ∷ [])) ≤ waiting_count es
    go true = count-map (λ e. if is_of c e then ended_entry a e else e) (λ e. one e (is_of c e)) es
    go false = omega (arith, count-append es (record { client = c; floor = a; live = None } ∷ []))

count-filter : (keep : Entry → Bool) (es : List Entry) → waiting_count (filter keep es) ≤ waiting_count es
count-filter keep [] = omega arith
count-filter keep (e ∷ es) = go (count-filter keep es) (keep e)
  where
    go : waiting_count (filter keep es) ≤ waiting_count es → (b : Bool) → waiting_count (cond b (e ∷ filter keep es) (filter keep es)) ≤ waits_one e + waiting_count es
    go ih true = omega (arith, ih)
    go ih false = omega (arith, ih)

moved-count : (f : Entry) (es : List Entry) → waiting_count (moved_last f es) ≤ waiting_count es + waits_one f
moved-count f es =
    let kept = filter (λ e. not (is_of f.client e)) es in
    omega (arith, count-append kept (f ∷ []), count-filter (λ e. not (is_of f.client e)) es)

-- A release: the replies are the first one, and a Grant for each that waits no more.
pub released-count : (n : ℕ) (p : Problem) (es : List Entry) (c a : ℕ) → length (releases n p es c a).replies + waiting_count (releases n p es c a).entries ≤ waiting_count es + 1
released-count n p es c a =
    let before = ended c a es in
    omega (arith, grants-count n p [] before, ended-count c a es)

-- A request whose ticket holds afterwards: it is answered by one reply, and else as above.
pub asked-count : (n : ℕ) (p : Problem) (es : List Entry) (t : Ticket) (o : Option Message) → IsWellFormed es →
    ((meaning p (answered n p es t o).entries).at t.client).claim ≡ Has t.mode t.resource Holding →
    length (answered n p es t o).replies + waiting_count (answered n p es t o).entries ≤ waiting_count es + 1
asked-count n p es t (Some reply) well holds = omega arith
asked-count n p es t None well holds = go (admits p t.mode t.resource after) refl
  where
    before : List Entry
    before = ended t.client (t.attempt - 1) es

    after : List Entry
    after = settled p before

    counts : (b : Bool) → waits_one (new_entry t b) ≡ 0 → length ((if b then Grant n t else Busy n t) ∷ grants n before after) + waiting_count (moved_last (new_entry t b) after) ≤ waiting_count es + 1
    counts b none = omega (arith, none, grants-count n p [] before, ended-count t.client (t.attempt - 1) es, moved-count (new_entry t b) after)

    claims : (b : Bool) → admits p t.mode t.resource after ≡ b → Has t.mode t.resource (if b then Holding else Waiting) ≡ Has t.mode t.resource Holding
    claims b is =
        ap (λ c. Has t.mode t.resource (if c then Holding else Waiting)) (sym is)
        ∙ sym (ap (λ (x : Standing). x.claim) (moved-puts p (new_entry t (admits p t.mode t.resource after)) after (settled-well p before (ended-well t.client (t.attempt - 1) es well)).once).here) ∙ holds

    go : (b : Bool) → admits p t.mode t.resource after ≡ b →
        length ((if admits p t.mode t.resource after then Grant n t else Busy n t) ∷ grants n before after) + waiting_count (moved_last (new_entry t (admits p t.mode t.resource after)) after) ≤ waiting_count es + 1
    go true is = rw (is) (counts true refl)
    go false is = absurd (let z : Has t.mode t.resource Waiting ≡ Has t.mode t.resource Holding = claims false is in cc)

-- Entries that stand for the same station: as many wait in the one list as in the other.

-- the client's ticket waits in the entries
abbrev waits_at : List Entry → ℕ → Bool
waits_at es c = waits_in (entry_of es c)

-- a client that waits has an entry in the middle
record Found (fs : List Entry) (c : ℕ) : Type 0 where
  front : List Entry
  entry : Entry
  rest : List Entry
  is : fs ≡ front ++ entry ∷ rest
  client : entry.client ≡ c
  waits : waits_in (Some entry) ≡ true

found-waiter : (fs : List Entry) (c : ℕ) → waits_at fs c ≡ true → Found fs c
found-waiter [] c h = absurd (let z : false ≡ true = h in cc)
found-waiter (f ∷ fs) c h = go (found-waiter fs c) (is_of c f) refl h
  where
    go : (waits_at fs c ≡ true → Found fs c) → (b : Bool) → is_of c f ≡ b → waits_in (cond b (Some f) (entry_of fs c)) ≡ true → Found (f ∷ fs) c
    go ih true is w = record { front = []; entry = f; rest = fs; is = refl; client = eqb-true f.client c is; waits = w }
    go ih false is w = let there = ih w in record { front = f ∷ there.front; entry = there.entry; rest = there.rest; is = ap (λ l. f ∷ l) there.is; client = there.client; waits = there.waits }

count-middle : (xs : List Entry) (e : Entry) (ys : List Entry) → waiting_count (xs ++ e ∷ ys) ≡ waits_one e + waiting_count (xs ++ ys)
count-middle xs e ys = omega (arith, count-append xs (e ∷ ys), count-append xs ys)

-- a client that waits behind the first entry is another than that one's
behind-apart : (e : Entry) (es : List Entry) (c : ℕ) → knows e.client es ≡ false → waits_at es c ≡ true → c ≢ e.client
behind-apart e es c new h = go (entry_of es c) refl h
  where
    go : (o : Option Entry) → entry_of es c ≡ o → waits_in o ≡ true → c ≢ e.client
    go None there w = absurd (let z : false ≡ true = w in cc)
    go (Some f) there w =
        let found = entry_of-found es c f there in
        λ same. let z : false ≡ true = sym (any-none (is_of e.client) es f new found.0) ∙ eq-eqb f.client e.client (found.1 ∙ same) in cc

behind-waits : (e : Entry) (es : List Entry) (c : ℕ) → knows e.client es ≡ false → waits_at es c ≡ true → waits_at (e ∷ es) c ≡ true
behind-waits e es c new h = ap (λ b. waits_in (cond b (Some e) (entry_of es c))) (ne_eqb e.client c (λ same. behind-apart e es c new h (sym same))) ∙ h

waiting-le : (es fs : List Entry) → EachOnce es → EachOnce fs → ((c : ℕ) → waits_at es c ≡ true → waits_at fs c ≡ true) → waiting_count es ≤ waiting_count fs
waiting-le [] fs once other all = omega arith
waiting-le (e ∷ es) fs once other all = go (waiting-le es) (waits_in (Some e)) refl
  where
    behind : (c : ℕ) → waits_at es c ≡ true → waits_at fs c ≡ true
    behind c h = all c (behind-waits e es c once.0 h)

    go : ((gs : List Entry) → EachOnce es → EachOnce gs → ((c : ℕ) → waits_at es c ≡ true → waits_at gs c ≡ true) → waiting_count es ≤ waiting_count gs) →
        (b : Bool) → waits_in (Some e) ≡ b → cond b 1 0 + waiting_count es ≤ waiting_count fs
    go ih false is = omega (arith, ih fs once.1 other behind)
    go ih true is = omega (arith, whole, count-middle there.front there.entry there.rest, one, ih (there.front ++ there.rest) once.1 middle.rest less)
      where
        there : Found fs e.client
        there = found-waiter fs e.client (all e.client (ap (λ b. waits_in (cond b (Some e) (entry_of es e.client))) (eq-eqb e.client e.client refl) ∙ is))

        whole : waiting_count fs ≡ waiting_count (there.front ++ there.entry ∷ there.rest)
        whole = ap waiting_count there.is

        middle : Middle there.front there.entry there.rest
        middle = once-middle there.front there.entry there.rest (subst EachOnce there.is other)

        one : waits_one there.entry ≡ 1
        one = ap (λ b. cond b 1 0) there.waits

        less : (c : ℕ) → waits_at es c ≡ true → waits_at (there.front ++ there.rest) c ≡ true
        less c h =
            ap waits_in (sym (entry_of-other there.front there.entry there.rest middle c (λ same. behind-apart e es c once.0 h (same ∙ there.client))))
            ∙ ap (λ l. waits_at l c) (sym there.is) ∙ behind c h

-- whose claim it is that waits, is told by the station
claim_waits : Claim → Bool
claim_waits Free = false
claim_waits (Has m x status) = is_waiting status

waits-claims : (o : Option Entry) → waits_in o ≡ claim_waits (standing_of o).claim
unfolding claim_waits
waits-claims None = refl
waits-claims (Some e) = go e.live
  where
    go : (l : Option Live) → waits_in (Some (record e { live = l })) ≡ claim_waits (standing_of (Some (record e { live = l }))).claim
    go None = refl
    go (Some l) = refl

pub same-waiting : (p q : Problem) (es fs : List Entry) → EachOnce es → EachOnce fs → meaning p es ≡ meaning q fs → waiting_count es ≤ waiting_count fs
same-waiting p q es fs once other same = waiting-le es fs once other each
  where
    each : (c : ℕ) → waits_at es c ≡ true → waits_at fs c ≡ true
    each c h = waits-claims (entry_of fs c) ∙ sym (ap (λ (s : Station). claim_waits (s.at c).claim) same) ∙ sym (waits-claims (entry_of es c)) ∙ h
