-- Whether a decision changes the entries.
use Rattle.std.proofs.Common.{◌≡◌, ◌≢◌, ◌↔◌, ◌⊎◌, inl, inr, ℕ, ◌+◌, ◌-◌, ◌<◌, ◌≤◌, ◌==◌, Bool, true, false, ◌||◌, ◌&&◌, cond, nat_le, nat_lt, List, [], ◌∷◌, ◌++◌, length, Option, Some, None, Result, Ok, Err, IsTrue, refl, sym, ap, ◌∙◌, arith}
use Rattle.std.specs.Prelude.{OnErr}
use Rattle.std.proofs.lemmas.Bool.{eq-eqb, ltb-false, cases_Bool}
use Rattle.std.proofs.lemmas.Bool.Decides.{Decides-ltb}
use Rattle.lock_messages.specs.declared.messages.Message.{Message}
use Rattle.lock_messages.specs.declared.messages.Message.TheVariants.{Over}
use Rattle.lock_messages.specs.declared.tickets.Mode.{Mode}
use Rattle.lock_messages.specs.declared.tickets.Mode.TheVariants.{Read, Write}
use Rattle.lock_messages.specs.declared.tickets.Ticket.{Ticket}
use Rattle.lock_model.specs.declared.entries.Entry.{Entry}
use Rattle.lock_model.specs.declared.entries.Live.{Live}
use Rattle.lock_model.specs.declared.entries.Status.{Status}
use Rattle.lock_model.specs.declared.entries.Status.TheVariants.{Waiting, Holding, Softened}
use Rattle.lock_model.specs.declared.problems.Problem.{Problem}
use Rattle.lock_model.specs.ExactStations.{is_of, knows, entry_of, EachOnce, is_waiting, admits, promoted, settled_live, settled_entry, settle, settled}
use Rattle.lock_model.specs.ExactDecisions.{ended, grant_of, told, grants, live_reply, reply_of_live, reply_to_known, new_entry, answered, takes_up, decision, changes}
use Rattle.lock_model.proofs.SwitchFacts.{grants-same}
use Rattle.voter_core.specs.Voters.{State, taken, state_after, ends_something, is_admitted, note_for}
use Rattle.voter_core.proofs.EndFacts.{ended-same, floor_seen, floor-ended, floor-before, found-moved}

-- ---- settling keeps clients and floors

pub knows-settle : (p : Problem) (c : ℕ) (front es : List Entry) → knows c (settle p front es) ≡ knows c es
knows-settle p c front [] = refl
knows-settle p c front (e ∷ es) = let f = settled_entry p (front ++ e ∷ es) e in ap (λ b. is_of c e || b) (knows-settle p c (front ++ f ∷ []) es)

floor-settle : (p : Problem) (c : ℕ) (front es : List Entry) → floor_seen (entry_of (settle p front es) c) ≡ floor_seen (entry_of es c)
floor-settle p c front [] = refl
floor-settle p c front (e ∷ es) = go (is_of c e) (floor-settle p c (front ++ settled_entry p (front ++ e ∷ es) e ∷ []) es)
  where
    rest : List Entry
    rest = settle p (front ++ settled_entry p (front ++ e ∷ es) e ∷ []) es

    go : (b : Bool) → floor_seen (entry_of rest c) ≡ floor_seen (entry_of es c) →
        floor_seen (cond b (Some (settled_entry p (front ++ e ∷ es) e)) (entry_of rest c)) ≡ floor_seen (cond b (Some e) (entry_of es c))
    go true h = refl
    go false h = h

-- ---- where nothing is granted nothing changes

append-none : (xs ys : List Message) → xs ++ ys ≡ [] → (xs ≡ []) × (ys ≡ [])
append-none [] ys h = (refl, h)
append-none (x ∷ xs) ys h = cc

quiet : (n : ℕ) (p : Problem) (es : List Entry) (client floor : ℕ) (live : Option Live) →
    told n (record { client = client; floor = floor; live = live }) (settled_entry p es (record { client = client; floor = floor; live = live })) ≡ [] →
    settled_entry p es (record { client = client; floor = floor; live = live }) ≡ record { client = client; floor = floor; live = live }
quiet n p es client floor None h = refl
quiet n p es client floor (Some l) h = go l.status refl (admits p l.mode l.resource es) refl h
  where
    before : Entry
    before = record { client = client; floor = floor; live = Some l }

    holding : Live → Entry
    holding m = record { client = client; floor = floor; live = Some m }

    go : (s : Status) → l.status ≡ s → (b : Bool) → admits p l.mode l.resource es ≡ b → told n before (settled_entry p es before) ≡ [] → settled_entry p es before ≡ before
    go Holding is b adm silent = ap (λ s. holding (cond (is_waiting s && admits p l.mode l.resource es) (promoted l) l)) is
    go Softened is b adm silent = ap (λ s. holding (cond (is_waiting s && admits p l.mode l.resource es) (promoted l) l)) is
    go Waiting is false adm silent =
        ap (λ s. holding (cond (is_waiting s && admits p l.mode l.resource es) (promoted l) l)) is
        ∙ ap (λ b. holding (cond b (promoted l) l)) adm
    go Waiting is true adm silent =
        let turned : settled_live p es l ≡ promoted l = ap (λ s. cond (is_waiting s && admits p l.mode l.resource es) (promoted l) l) is ∙ ap (λ b. cond b (promoted l) l) adm in
        let said : told n before (holding (promoted l)) ≡ grant_of n client (Some (promoted l)) = ap (λ s. cond (is_waiting s && true) (grant_of n client (Some (promoted l))) []) is in
        let z : grant_of n client (Some (promoted l)) ≡ [] = sym said ∙ sym (ap (λ m. told n before (holding m)) turned) ∙ silent in
        cc

settle-quiet : (n : ℕ) (p : Problem) (front es : List Entry) → grants n es (settle p front es) ≡ [] → settle p front es ≡ es
settle-quiet n p front [] h = refl
settle-quiet n p front (e ∷ es) h =
    let f = settled_entry p (front ++ e ∷ es) e in
    let parts = append-none (told n e f) (grants n es (settle p (front ++ f ∷ []) es)) h in
    let same : f ≡ e = quiet n p (front ++ e ∷ es) e.client e.floor e.live parts.0 in
    ap (λ x. x ∷ settle p (front ++ f ∷ []) es) same ∙ ap (λ (l : List Entry). e ∷ l) (settle-quiet n p (front ++ f ∷ []) es parts.1)

-- ---- entries that stay tell nothing

-- ---- a release changes the entries where something ended, or where a Grant is told

no-length : (ms : List Message) → length ms ≤ 0 → ms ≡ []
no-length [] h = refl
no-length (m ∷ ms) h = absurd (omega arith)

pub release-ended : (p : Problem) (c a : ℕ) (es : List Entry) (b : Bool) → b ≡ ends_something a (entry_of es c) → b ≡ true → IsTrue b ↔ (settled p (ended c a es) ≢ es)
release-ended p c a es b is sure = (λ t. moved, λ apart. sure)
  where
    moved : settled p (ended c a es) ≢ es
    moved same =
        let h : ends_something a (entry_of es c) ≡ true = sym is ∙ sure in
        floor-before c a es h (sym (ap (λ l. floor_seen (entry_of l c)) same) ∙ floor-settle p c [] (ended c a es) ∙ floor-ended c a es h)

pub release-told : (n : ℕ) (p : Problem) (c a : ℕ) (es : List Entry) (said : List Message) (b e : Bool) → EachOnce es → e ≡ ends_something a (entry_of es c) → e ≡ false →
    length said ≡ length (grants n (ended c a es) (settled p (ended c a es))) + 1 → b ≡ nat_lt 1 (length said) → IsTrue b ↔ (settled p (ended c a es) ≢ es)
release-told n p c a es said b e once is not_ended size told = (to, from)
  where
    still : ended c a es ≡ es
    still = ended-same c a es once (sym is ∙ not_ended)

    to : IsTrue b → settled p (ended c a es) ≢ es
    to h same =
        let none : grants n (ended c a es) (settled p (ended c a es)) ≡ [] = ap (λ l. grants n l (settled p (ended c a es))) still ∙ ap (grants n es) same ∙ grants-same n es in
        let count : length (grants n (ended c a es) (settled p (ended c a es))) ≡ 0 = ap length none in
        let low : 1 < length said = (Decides-ltb 1 (length said)).0 (sym told ∙ h) in
        omega (arith, count, low, size)

    from : settled p (ended c a es) ≢ es → IsTrue b
    from apart = go (cases_Bool (nat_lt 1 (length said)))
      where
        go : (nat_lt 1 (length said) ≡ true) ⊎ (nat_lt 1 (length said) ≡ false) → IsTrue b
        go (inl t) = told ∙ t
        go (inr f) =
            let low : length said ≤ 1 = ltb-false 1 (length said) f in
            let none : grants n (ended c a es) (settled p (ended c a es)) ≡ [] = no-length (grants n (ended c a es) (settled p (ended c a es))) (omega (arith, low, size)) in
            absurd (apart (settle-quiet n p [] (ended c a es) none ∙ still))

-- ---- a ticket that is taken up changes the entries

self-equal : (a : ℕ) → (a == a) ≡ true
self-equal a = eq-eqb a a refl

-- the entry of a ticket that was taken up is one that the node has met
met : (n : ℕ) (t : Ticket) (admitted : Bool) → reply_to_known n t (Some (new_entry t admitted)) ≢ None
met n t admitted h = go (cases_Bool (nat_le t.attempt (t.attempt - 1)))
  where
    l : Live
    l = record { attempt = t.attempt; mode = t.mode; resource = t.resource; status = cond admitted Holding Waiting }

    go : (nat_le t.attempt (t.attempt - 1) ≡ true) ⊎ (nat_le t.attempt (t.attempt - 1) ≡ false) → ⊥
    go (inl e) = let z : Some (Over n t.client t.attempt) ≡ None = sym (ap (λ b. cond b (Some (Over n t.client t.attempt)) (reply_of_live n t (Some l))) e) ∙ h in cc
    go (inr e) =
        let z : Some (live_reply n t l) ≡ None =
        sym (ap (λ b. cond b (Some (Over n t.client t.attempt)) (reply_of_live n t (Some l))) e ∙ ap (λ b. cond b (Some (live_reply n t l)) None) (self-equal t.attempt)) ∙ h in
        cc

pub taking-changes : (n : ℕ) (p : Problem) (es : List Entry) (t : Ticket) → reply_to_known n t (entry_of es t.client) ≡ None → (takes_up n p es t).entries ≢ es
taking-changes n p es t new same =
    let before = settled p (ended t.client (t.attempt - 1) es) in
    let f = new_entry t (admits p t.mode t.resource before) in
    met n t (admits p t.mode t.resource before) (ap (reply_to_known n t) (sym (sym (ap (λ l. entry_of l t.client) same) ∙ found-moved f before)) ∙ new)

pub request-changes : (n : ℕ) (p : Problem) (es : List Entry) (t : Ticket) → reply_to_known n t (entry_of es t.client) ≡ None →
    IsTrue true ↔ ((answered n p es t (reply_to_known n t (entry_of es t.client))).entries ≢ es)
request-changes n p es t new = (λ h same. taking-changes n p es t new (sym (ap (λ o. (answered n p es t o).entries) new) ∙ same), λ h. refl)

-- tests of one thing are one
pub one-test : {P : Type 0} (b c : Bool) → IsTrue b ↔ P → IsTrue c ↔ P → b ≡ c
one-test true true h k = refl
one-test true false h k = sym (k.1 (h.0 refl))
one-test false true h k = h.1 (k.0 refl)
one-test false false h k = refl

-- how many are said: the sender's reply and the Grants
pub said-length : (said all pushed items : List Message) (m : Message) (gs hs : List Message) → said ≡ all → all ≡ pushed ++ gs → pushed ≡ items ++ m ∷ [] → items ≡ [] → gs ≡ hs → length said ≡ length hs + 1
said-length said all pushed items m gs hs a b c d e =
    let whole : said ≡ m ∷ hs = a ∙ b ∙ ap (λ xs. xs ++ gs) (c ∙ ap (λ xs. xs ++ m ∷ []) d) ∙ ap (λ xs. m ∷ xs) e in
    let h = ap length whole in
    omega (arith, h)

-- the node after a message, from the parts that were written
pub taken-is : (n : ℕ) (p : Problem) (es : List Entry) (s : State) (m : Message) (entries : List Entry) (state : State) → entries ≡ (decision p es m).entries →
    state ≡ state_after (changes p es m) (decision p es m).replies →
    record { node = n; problem = p; entries = entries; state = state } ≡ taken (record { node = n; problem = p; entries = es; state = s }) m
taken-is n p es s m entries state e f = λ i. record { node = n; problem = p; entries = e i; state = f i }

-- ---- what the policy is told

pub note-reader : (m : Mode) (a b : Bool) → note_for m a ≡ Some b → (m ≡ Read) × (a ≡ b)
note-reader Read a b h = (refl, cc)
note-reader Write a b h = cc

pub note-writer : (m : Mode) (a : Bool) → note_for m a ≡ None → m ≡ Write
note-writer Read a h = cc
note-writer Write a h = refl

-- whether the ticket was admitted, from what was asked
pub asked-is : (p : Problem) (t : Ticket) (es ended_entries after : List Entry) (a b : Bool) → ended_entries ≡ ended t.client (t.attempt - 1) es → after ≡ settled p ended_entries →
    a ≡ admits p t.mode t.resource after → is_admitted p es t ≡ b → a ≡ b
asked-is p t es ended_entries after a b e f g h = g ∙ ap (admits p t.mode t.resource) (f ∙ ap (settled p) e) ∙ h

pub on-err-as : {A E : Type 0} (r : Result A E) (X : Type 0) → X → OnErr r X
on-err-as (Ok a) X x = tt
on-err-as (Err e) X x = x
