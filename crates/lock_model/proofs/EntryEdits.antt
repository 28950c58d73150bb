-- What ending attempts, softening one and moving an entry last do to the list, and to the station that it stands for.
use Rattle.std.proofs.Common.{◌≡◌, ◌≢◌, ℕ, ◌+◌, ◌<◌, ◌≤◌, ◌==◌, ◌⊎◌, Bool, true, false, not, ◌&&◌, ◌||◌, cond, ltb, List, [], ◌∷◌, ◌++◌, Option, Some, None, IfSome, map, filter, refl, sym, ◌∙◌, ap, subst, inl, inr, arith}
use Rattle.std.specs.List.{AllByRecursion}
use Rattle.std.specs.Option.{option_map}
use Rattle.std.proofs.lemmas.Bool.{eqb-true, eq-eqb, ne_eqb, ltb-true, ltb-false, cases_lt, or_parts, and_parts, and_from}
use Rattle.std.proofs.lemmas.List.{append-nil}
use Rattle.lock_messages.specs.declared.tickets.Mode.TheVariants.{Read, Write}
use Rattle.lock_model.specs.declared.entries.Entry.{Entry}
use Rattle.lock_model.specs.declared.entries.Live.{Live}
use Rattle.lock_model.specs.declared.entries.Status.{Status}
use Rattle.lock_model.specs.declared.entries.Status.TheVariants.{Waiting, Holding, Softened}
use Rattle.lock_model.specs.declared.problems.Problem.{Problem}
use Rattle.lock_model.specs.Stations.{Free, Has, stranger, EndsAt, Ends, SoftensAt, holder, waiter, neither, Softens, Puts}
use Rattle.lock_model.specs.ExactStations.{is_of, knows, entry_of, claim_of, standing_of, meaning, EachOnce, IsAboveFloor, IsReaderIfSoftened, IsWellFormed, is_write, admits, promoted, settled_live, settled_entry, settle, settled, is_waiting}
use Rattle.lock_model.specs.ExactDecisions.{ended_entry, ended, softened_writer, softened_in, softened_entry, softened, moved_last}
use Rattle.lock_model.proofs.EntryFacts.{any-found, Middle, once-put, entry_of-here, entry_of-other, entry_of-found, entry_of-among, all-at}
use Rattle.lock_model.proofs.SettlingSets.{settle-once}
use Rattle.lock_model.proofs.SettlingFacts.{write-true}

-- a change of each entry that keeps its client

entry_of-map : (g : Entry → Entry) → ((e : Entry) → (g e).client ≡ e.client) → (es : List Entry) (c : ℕ) → entry_of (map g es) c ≡ option_map g (entry_of es c)
entry_of-map g k [] c = refl
entry_of-map g k (e ∷ es) c =
    ap (λ n. cond (n == c) (Some (g e)) (entry_of (map g es) c)) (k e)
    ∙ ap (λ o. cond (is_of c e) (Some (g e)) o) (entry_of-map g k es c) ∙ both (is_of c e)
  where
    both : (b : Bool) → cond b (Some (g e)) (option_map g (entry_of es c)) ≡ option_map g (cond b (Some e) (entry_of es c))
    both true = refl
    both false = refl

knows-map : (g : Entry → Entry) → ((e : Entry) → (g e).client ≡ e.client) → (es : List Entry) (c : ℕ) → knows c (map g es) ≡ knows c es
knows-map g k [] c = refl
knows-map g k (e ∷ es) c = ap (λ n. (n == c) || knows c (map g es)) (k e) ∙ ap (λ b. is_of c e || b) (knows-map g k es c)

once-map : (g : Entry → Entry) → ((e : Entry) → (g e).client ≡ e.client) → (es : List Entry) → EachOnce es → EachOnce (map g es)
once-map g k [] o = o
once-map g k (e ∷ es) o = (knows-map g k es (g e).client ∙ ap (λ c. knows c es) (k e) ∙ o.0, once-map g k es o.1)

all-map : (P : Entry → Type 0) (g : Entry → Entry) → ((e : Entry) → P e → P (g e)) → (es : List Entry) → AllByRecursion P es → AllByRecursion P (map g es)
all-map P g k [] a = a
all-map P g k (e ∷ es) a = (k e a.0, all-map P g k es a.1)

all-append : (P : Entry → Type 0) (xs ys : List Entry) → AllByRecursion P xs → AllByRecursion P ys → AllByRecursion P (xs ++ ys)
all-append P [] ys a b = b
all-append P (x ∷ xs) ys a b = (a.0, all-append P xs ys a.1 b)

-- a change of one client's entry puts that client where its new entry says
map-puts : (p : Problem) (g : Entry → Entry) (c : ℕ) → ((e : Entry) → (g e).client ≡ e.client) → ((e : Entry) → is_of c e ≡ false → g e ≡ e) → (es : List Entry) →
    Puts (meaning p es) c (standing_of (option_map g (entry_of es c))) (meaning p (map g es))
map-puts p g c keeps only es = record {
  problem = refl;
  here = ap standing_of (entry_of-map g keeps es c);
  others = λ d apart. ap standing_of (entry_of-map g keeps es d ∙ other d apart (entry_of es d) refl);
}
  where
    other : (d : ℕ) → d ≢ c → (found : Option Entry) → entry_of es d ≡ found → option_map g (entry_of es d) ≡ entry_of es d
    other d apart None k = ap (option_map g) k ∙ sym k
    other d apart (Some e) k = ap (option_map g) k ∙ ap Some (only e (ne_eqb e.client c (λ s. apart (sym (entry_of-found es d e k).1 ∙ s)))) ∙ sym k

-- a client that isn't known has no entry, and one that is has one
pub unknown-none : (es : List Entry) (c : ℕ) → knows c es ≡ false → entry_of es c ≡ None
unknown-none [] c h = refl
unknown-none (e ∷ es) c h =
    let k = or_parts (is_of c e) (knows c es) h in
    ap (λ b. cond b (Some e) (entry_of es c)) k.0 ∙ unknown-none es c k.1

known-some : (es : List Entry) (c : ℕ) → EachOnce es → knows c es ≡ true → (e : Entry) × (entry_of es c ≡ Some e) × (is_of c e ≡ true)
known-some es c o h =
    let f = any-found (is_of c) es h in
    (f.0, ap (entry_of es) (sym (eqb-true (f.0).client c f.2)) ∙ entry_of-among es f.0 o f.1, f.2)

-- one entry with its attempts ended

pub ended-standing : (a : ℕ) (e : Entry) → EndsAt a (standing_of (Some e)) (standing_of (Some (ended_entry a e)))
ended-standing a e = go (ltb e.floor a) refl
  where
    go : (b : Bool) → ltb e.floor a ≡ b → EndsAt a (standing_of (Some e)) (standing_of (Some (cond b (record { client = e.client; floor = a; live = None }) e)))
    go true h = inr (ltb-true e.floor a h, refl)
    go false h = inl (ltb-false e.floor a h, refl)

ended-client : (a : ℕ) (e : Entry) → (ended_entry a e).client ≡ e.client
ended-client a e = go (ltb e.floor a)
  where
    go : (b : Bool) → (cond b (record { client = e.client; floor = a; live = None }) e).client ≡ e.client
    go true = refl
    go false = refl

ended-above : (a : ℕ) (e : Entry) → IsAboveFloor e → IsAboveFloor (ended_entry a e)
ended-above a e h = go (ltb e.floor a)
  where
    go : (b : Bool) → IsAboveFloor (cond b (record { client = e.client; floor = a; live = None }) e)
    go true = tt
    go false = h

ended-reader : (a : ℕ) (e : Entry) → IsReaderIfSoftened e → IsReaderIfSoftened (ended_entry a e)
ended-reader a e h = go (ltb e.floor a)
  where
    go : (b : Bool) → IsReaderIfSoftened (cond b (record { client = e.client; floor = a; live = None }) e)
    go true = tt
    go false = h

-- the client's entry with its attempts ended, and the others as they are
ending : ℕ → ℕ → Entry → Entry
ending c a e = cond (is_of c e) (ended_entry a e) e

ending-client : (c a : ℕ) (e : Entry) → (ending c a e).client ≡ e.client
unfolding ending
ending-client c a e = go (is_of c e)
  where
    go : (b : Bool) → (cond b (ended_entry a e) e).client ≡ e.client
    go true = ended-client a e
    go false = refl

ending-keeps : (P : Entry → Type 0) (c a : ℕ) (e : Entry) → (P e → P (ended_entry a e)) → P e → P (ending c a e)
unfolding ending
ending-keeps P c a e k h = go (is_of c e)
  where
    go : (b : Bool) → P (cond b (ended_entry a e) e)
    go true = k h
    go false = h

new-ended : ℕ → ℕ → Entry
new-ended c a = record { client = c; floor = a; live = None }

-- a change of each entry, as far as one client goes
ended-known : (p : Problem) (c a : ℕ) (es : List Entry) → EachOnce es → knows c es ≡ true → Ends (meaning p es) c a (meaning p (map (ending c a) es))
unfolding ending
ended-known p c a es o h =
    let k = known-some es c o h in
    let is : ending c a k.0 ≡ ended_entry a k.0 = ap (λ b. cond b (ended_entry a k.0) k.0) k.2 in
    let now : standing_of (Some (ended_entry a k.0)) ≡ standing_of (option_map (ending c a) (entry_of es c)) = sym (ap (λ o. standing_of (option_map (ending c a) o)) k.1 ∙ ap (λ e. standing_of (Some e)) is) in (
      standing_of (option_map (ending c a) (entry_of es c)),
      subst (EndsAt a (standing_of (entry_of es c))) now (subst (λ s. EndsAt a s (standing_of (Some (ended_entry a k.0)))) (sym (ap standing_of k.1)) (ended-standing a k.0)),
      map-puts p (ending c a) c (ending-client c a) (λ e no_match. ap (λ b. cond b (ended_entry a e) e) no_match) es,
    )

ended-unknown : (p : Problem) (c a : ℕ) (es : List Entry) → EachOnce es → knows c es ≡ false → Ends (meaning p es) c a (meaning p (es ++ new-ended c a ∷ []))
unfolding new-ended
ended-unknown p c a es o h =
    let new : knows c (es ++ []) ≡ false = ap (knows c) (append-nil es) ∙ h in
    let m : Middle es (new-ended c a) [] = record { new = new; rest = subst EachOnce (sym (append-nil es)) o } in (
      record { floor = a; claim = Free },
      subst (λ s. EndsAt a s (record { floor = a; claim = Free })) (sym (ap standing_of (unknown-none es c h))) (go (cases_lt 0 a)),
      record {
        problem = refl;
        here = ap standing_of (entry_of-here es (new-ended c a) [] m);
        others = λ d apart. ap standing_of (entry_of-other es (new-ended c a) [] m d apart ∙ ap (λ xs. entry_of xs d) (append-nil es));
      },
    )
  where
    go : (0 < a) ⊎ (a ≤ 0) → EndsAt a stranger (record { floor = a; claim = Free })
    go (inl q) = inr (q, refl)
    go (inr q) = let zero_is : a ≡ 0 = omega arith in inl (q, ap (λ n. record { floor = n; claim = Free }) zero_is)

pub ended-ends : (p : Problem) (c a : ℕ) (es : List Entry) → EachOnce es → Ends (meaning p es) c a (meaning p (ended c a es))
unfolding ending new-ended
ended-ends p c a es o = go (knows c es) refl
  where
    go : (b : Bool) → knows c es ≡ b → Ends (meaning p es) c a (meaning p (cond b (map (ending c a) es) (es ++ new-ended c a ∷ [])))
    go true h = ended-known p c a es o h
    go false h = ended-unknown p c a es o h

pub ended-well : (c a : ℕ) (es : List Entry) → IsWellFormed es → IsWellFormed (ended c a es)
unfolding ending new-ended
ended-well c a es w = go (knows c es) refl
  where
    go : (b : Bool) → knows c es ≡ b → IsWellFormed (cond b (map (ending c a) es) (es ++ new-ended c a ∷ []))
    go true h = record {
      once = once-map (ending c a) (ending-client c a) es w.once;
      attempts = all-map IsAboveFloor (ending c a) (λ e. ending-keeps IsAboveFloor c a e (ended-above a e)) es w.attempts;
      softened = all-map IsReaderIfSoftened (ending c a) (λ e. ending-keeps IsReaderIfSoftened c a e (ended-reader a e)) es w.softened;
    }
    go false h = record {
      once = once-put es (new-ended c a) [] (record { new = ap (knows c) (append-nil es) ∙ h; rest = subst EachOnce (sym (append-nil es)) w.once });
      attempts = all-append IsAboveFloor es (new-ended c a ∷ []) w.attempts (tt, tt);
      softened = all-append IsReaderIfSoftened es (new-ended c a ∷ []) w.softened (tt, tt);
    }

-- one entry with an attempt softened

-- by its live ticket
softened-at : (a n : ℕ) (o : Option Live) → IfSome o (λ l. l.attempt ≡ n + 1) →
    SoftensAt a (record { floor = n; claim = claim_of o }) (record { floor = n; claim = claim_of (softened_in a o) })
softened-at a n None h = neither (λ now x. (λ k. cc, λ k. cc))
softened-at a n (Some l) h = go ((l.attempt == a) && is_write l.mode) refl
  where
    of_attempt : (l.attempt == a) ≡ true → a ≡ n + 1
    of_attempt t = sym (eqb-true l.attempt a t) ∙ h

    claim : is_write l.mode ≡ true → (s : Status) → l.status ≡ s → Has l.mode l.resource l.status ≡ Has Write l.resource s
    claim t s k = ap (λ m. Has m l.resource l.status) (write-true l.mode t) ∙ ap (Has Write l.resource) k

    by_status : (l.attempt == a) ≡ true → is_write l.mode ≡ true → (s : Status) → l.status ≡ s →
        SoftensAt a (record { floor = n; claim = claim_of (Some l) }) (record { floor = n; claim = claim_of (softened_writer l s) })
    by_status t w Waiting k = waiter l.resource (of_attempt t) (claim w Waiting k)
    by_status t w Holding k = holder l.resource (of_attempt t) (claim w Holding k)
    by_status t w Softened k = neither (λ now x. (
      λ e. let c : Has Write l.resource Softened ≡ Has Write x Holding = sym (claim w Softened k) ∙ e in cc,
      λ e. let c : Has Write l.resource Softened ≡ Has Write x Waiting = sym (claim w Softened k) ∙ e in cc,
    ))

    apart : ((l.attempt == a) && is_write l.mode) ≡ false → a ≡ n + 1 → l.mode ≡ Write → ⊥
    apart f now w =
        let z : true ≡ false = sym (and_from (l.attempt == a) (is_write l.mode) (eq-eqb l.attempt a (h ∙ sym now)) (ap is_write w)) ∙ f in cc

    go : (b : Bool) → ((l.attempt == a) && is_write l.mode) ≡ b →
        SoftensAt a (record { floor = n; claim = claim_of (Some l) }) (record { floor = n; claim = claim_of (cond b (softened_writer l l.status) (Some l)) })
    go true t = let p = and_parts (l.attempt == a) (is_write l.mode) t in by_status p.0 p.1 l.status refl
    go false f = neither (λ now x. (
      λ (e : Has l.mode l.resource l.status ≡ Has Write x Holding). apart f now cc,
      λ (e : Has l.mode l.resource l.status ≡ Has Write x Waiting). apart f now cc,
    ))

softened-above : (a : ℕ) (e : Entry) → IsAboveFloor e → IsAboveFloor (softened_entry a e)
softened-above a e h = go e.live h
  where
    by_status : (l : Live) → l.attempt ≡ e.floor + 1 → (s : Status) → IfSome (softened_writer l s) (λ k. k.attempt ≡ e.floor + 1)
    by_status l h Waiting = tt
    by_status l h Holding = h
    by_status l h Softened = h

    live : (l : Live) → l.attempt ≡ e.floor + 1 → (b : Bool) → IfSome (cond b (softened_writer l l.status) (Some l)) (λ k. k.attempt ≡ e.floor + 1)
    live l h true = by_status l h l.status
    live l h false = h

    go : (o : Option Live) → IfSome o (λ l. l.attempt ≡ e.floor + 1) → IfSome (softened_in a o) (λ l. l.attempt ≡ e.floor + 1)
    go None h = tt
    go (Some l) h = live l h ((l.attempt == a) && is_write l.mode)

softened-reader : (a : ℕ) (e : Entry) → IsReaderIfSoftened e → IsReaderIfSoftened (softened_entry a e)
softened-reader a e h = go e.live h
  where
    by_status : (l : Live) → (l.status ≡ Softened → l.mode ≡ Read) → (s : Status) → IfSome (softened_writer l s) (λ k. k.status ≡ Softened → k.mode ≡ Read)
    by_status l h Waiting = tt
    by_status l h Holding = λ k. refl
    by_status l h Softened = h

    live : (l : Live) → (l.status ≡ Softened → l.mode ≡ Read) → (b : Bool) → IfSome (cond b (softened_writer l l.status) (Some l)) (λ k. k.status ≡ Softened → k.mode ≡ Read)
    live l h true = by_status l h l.status
    live l h false = h

    go : (o : Option Live) → IfSome o (λ l. l.status ≡ Softened → l.mode ≡ Read) → IfSome (softened_in a o) (λ l. l.status ≡ Softened → l.mode ≡ Read)
    go None h = tt
    go (Some l) h = live l h ((l.attempt == a) && is_write l.mode)

-- the client's entry with its attempt softened, and the others as they are
softening : ℕ → ℕ → Entry → Entry
softening c a e = cond (is_of c e) (softened_entry a e) e

softening-client : (c a : ℕ) (e : Entry) → (softening c a e).client ≡ e.client
unfolding softening
softening-client c a e = go (is_of c e)
  where
    go : (b : Bool) → (cond b (softened_entry a e) e).client ≡ e.client
    go true = refl
    go false = refl

softening-keeps : (P : Entry → Type 0) (c a : ℕ) (e : Entry) → (P e → P (softened_entry a e)) → P e → P (softening c a e)
unfolding softening
softening-keeps P c a e k h = go (is_of c e)
  where
    go : (b : Bool) → P (cond b (softened_entry a e) e)
    go true = k h
    go false = h

-- the softened entries are those of the station with the attempt softened
pub softened-softens : (p : Problem) (c a : ℕ) (es : List Entry) → AllByRecursion IsAboveFloor es → Softens (meaning p es) c a (meaning p (softened c a es))
unfolding softening
softened-softens p c a es w = (
  standing_of (option_map (softening c a) (entry_of es c)),
  at_c (entry_of es c) refl,
  map-puts p (softening c a) c (softening-client c a) (λ e no_match. ap (λ b. cond b (softened_entry a e) e) no_match) es,
)
  where
    at_c : (found : Option Entry) → entry_of es c ≡ found → SoftensAt a (standing_of found) (standing_of (option_map (softening c a) found))
    at_c None k = neither (λ now x. (λ q. cc, λ q. cc))
    at_c (Some e) k =
        let f = entry_of-found es c e k in
        subst (λ b. SoftensAt a (standing_of (Some e)) (standing_of (Some (cond b (softened_entry a e) e)))) (sym (eq-eqb e.client c f.1)) (softened-at a e.floor e.live (all-at IsAboveFloor es c e w k))

pub softened-well : (c a : ℕ) (es : List Entry) → IsWellFormed es → IsWellFormed (softened c a es)
unfolding softening
softened-well c a es w = record {
  once = once-map (softening c a) (softening-client c a) es w.once;
  attempts = all-map IsAboveFloor (softening c a) (λ e. softening-keeps IsAboveFloor c a e (softened-above a e)) es w.attempts;
  softened = all-map IsReaderIfSoftened (softening c a) (λ e. softening-keeps IsReaderIfSoftened c a e (softened-reader a e)) es w.softened;
}

-- settling keeps entries well formed

settled-above : (p : Problem) (es : List Entry) (e : Entry) → IsAboveFloor e → IsAboveFloor (settled_entry p es e)
settled-above p es e h = go e.live h
  where
    live : (l : Live) (b : Bool) → l.attempt ≡ e.floor + 1 → (cond b (promoted l) l).attempt ≡ e.floor + 1
    live l true k = k
    live l false k = k

    go : (o : Option Live) → IfSome o (λ l. l.attempt ≡ e.floor + 1) → IfSome (option_map (settled_live p es) o) (λ l. l.attempt ≡ e.floor + 1)
    go None k = k
    go (Some l) k = live l (is_waiting l.status && admits p l.mode l.resource es) k

settled-reader : (p : Problem) (es : List Entry) (e : Entry) → IsReaderIfSoftened e → IsReaderIfSoftened (settled_entry p es e)
settled-reader p es e h = go e.live h
  where
    live : (l : Live) (b : Bool) → (l.status ≡ Softened → l.mode ≡ Read) → (cond b (promoted l) l).status ≡ Softened → (cond b (promoted l) l).mode ≡ Read
    live l true k s = absurd (let z : Holding ≡ Softened = s in cc)
    live l false k s = k s

    go : (o : Option Live) → IfSome o (λ l. l.status ≡ Softened → l.mode ≡ Read) → IfSome (option_map (settled_live p es) o) (λ l. l.status ≡ Softened → l.mode ≡ Read)
    go None k = k
    go (Some l) k = live l (is_waiting l.status && admits p l.mode l.resource es) k

settle-all : (P : Entry → Type 0) → ((p : Problem) (es : List Entry) (e : Entry) → P e → P (settled_entry p es e)) →
    (p : Problem) (front rest : List Entry) → AllByRecursion P rest → AllByRecursion P (settle p front rest)
settle-all P k p front [] a = a
settle-all P k p front (e ∷ rest) a = (k p (front ++ e ∷ rest) e a.0, settle-all P k p (front ++ settled_entry p (front ++ e ∷ rest) e ∷ []) rest a.1)

pub settled-well : (p : Problem) (es : List Entry) → IsWellFormed es → IsWellFormed (settled p es)
settled-well p es w = record {
  once = settle-once p [] es w.once;
  attempts = settle-all IsAboveFloor settled-above p [] es w.attempts;
  softened = settle-all IsReaderIfSoftened settled-reader p [] es w.softened;
}

-- an entry moved last

kept : ℕ → List Entry → List Entry
kept c es = filter (λ e. not (is_of c e)) es

-- one entry more of what is kept
kept-step : (c d : ℕ) (e : Entry) (es : List Entry) (b : Bool) → is_of c e ≡ b → d ≢ c → entry_of (kept c es) d ≡ entry_of es d → entry_of (kept c (e ∷ es)) d ≡ entry_of (e ∷ es) d
unfolding kept
kept-step c d e es true h apart ih =
    let gone : is_of d e ≡ false = ne_eqb e.client d (λ s. apart (sym s ∙ eqb-true e.client c h)) in
    ap (λ b. entry_of (cond (not b) (e ∷ kept c es) (kept c es)) d) h ∙ ih ∙ sym (ap (λ b. cond b (Some e) (entry_of es d)) gone)
kept-step c d e es false h apart ih =
    ap (λ b. entry_of (cond (not b) (e ∷ kept c es) (kept c es)) d) h ∙ ap (λ o. cond (is_of d e) (Some e) o) ih

kept-other : (c d : ℕ) (es : List Entry) → d ≢ c → entry_of (kept c es) d ≡ entry_of es d
unfolding kept
kept-other c d [] apart = refl
kept-other c d (e ∷ es) apart = kept-step c d e es (is_of c e) refl apart (kept-other c d es apart)

kept-unknown : (c : ℕ) (es : List Entry) → knows c (kept c es) ≡ false
unfolding kept
kept-unknown c [] = refl
kept-unknown c (e ∷ es) = go (kept-unknown c es) (is_of c e) refl
  where
    go : knows c (kept c es) ≡ false → (b : Bool) → is_of c e ≡ b → knows c (cond (not b) (e ∷ kept c es) (kept c es)) ≡ false
    go ih true h = ih
    go ih false h = ap (λ b. b || knows c (kept c es)) h ∙ ih

kept-knows : (c d : ℕ) (es : List Entry) → knows d es ≡ false → knows d (kept c es) ≡ false
unfolding kept
kept-knows c d [] h = refl
kept-knows c d (e ∷ es) h = go (kept-knows c d es (or_parts (is_of d e) (knows d es) h).1) (is_of c e)
  where
    go : knows d (kept c es) ≡ false → (b : Bool) → knows d (cond (not b) (e ∷ kept c es) (kept c es)) ≡ false
    go ih true = ih
    go ih false = ap (λ b. b || knows d (kept c es)) (or_parts (is_of d e) (knows d es) h).0 ∙ ih

kept-once : (c : ℕ) (es : List Entry) → EachOnce es → EachOnce (kept c es)
unfolding kept
kept-once c [] o = o
kept-once c (e ∷ es) o = go (kept-once c es o.1) (is_of c e)
  where
    go : EachOnce (kept c es) → (b : Bool) → EachOnce (cond (not b) (e ∷ kept c es) (kept c es))
    go ih true = ih
    go ih false = (kept-knows c e.client es o.0, ih)

kept-all : (P : Entry → Type 0) (c : ℕ) (es : List Entry) → AllByRecursion P es → AllByRecursion P (kept c es)
unfolding kept
kept-all P c [] a = a
kept-all P c (e ∷ es) a = go (kept-all P c es a.1) (is_of c e)
  where
    go : AllByRecursion P (kept c es) → (b : Bool) → AllByRecursion P (cond (not b) (e ∷ kept c es) (kept c es))
    go ih true = ih
    go ih false = (a.0, ih)

moved-middle : (f : Entry) (es : List Entry) → EachOnce es → Middle (kept f.client es) f []
unfolding kept
moved-middle f es o = record {
  new = ap (knows f.client) (append-nil (kept f.client es)) ∙ kept-unknown f.client es;
  rest = subst EachOnce (sym (append-nil (kept f.client es))) (kept-once f.client es o);
}

pub moved-puts : (p : Problem) (f : Entry) (es : List Entry) → EachOnce es → Puts (meaning p es) f.client (standing_of (Some f)) (meaning p (moved_last f es))
unfolding kept
moved-puts p f es o = record {
  problem = refl;
  here = ap standing_of (entry_of-here (kept f.client es) f [] (moved-middle f es o));
  others = λ d apart. ap standing_of (entry_of-other (kept f.client es) f [] (moved-middle f es o) d apart ∙ ap (λ xs. entry_of xs d) (append-nil (kept f.client es)) ∙ kept-other f.client d es apart);
}

pub moved-well : (f : Entry) (es : List Entry) → IsAboveFloor f → IsReaderIfSoftened f → IsWellFormed es → IsWellFormed (moved_last f es)
unfolding kept
moved-well f es a r w = record {
  once = once-put (kept f.client es) f [] (moved-middle f es w.once);
  attempts = all-append IsAboveFloor (kept f.client es) (f ∷ []) (kept-all IsAboveFloor f.client es w.attempts) (a, tt);
  softened = all-append IsReaderIfSoftened (kept f.client es) (f ∷ []) (kept-all IsReaderIfSoftened f.client es w.softened) (r, tt);
}
