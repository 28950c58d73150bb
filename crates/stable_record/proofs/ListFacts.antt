-- Entries as a list: where a client's is, and what is left where one is replaced, moved or added.
use Rattle.std.proofs.Common.{◌≡◌, ◌⊎◌, inl, inr, ℕ, zero, suc, ◌+◌, ◌<◌, ◌==◌, Bool, true, false, not, ◌||◌, cond, List, [], ◌∷◌, ◌++◌, length, take, drop, filter, position, Option, Some, None, slice_get, slice_set, refl, sym, ap, ◌∙◌, subst, is_some, IfSome, get_or, nat_lt, arith}
use Rattle.std.specs.List.{list_any, position_or_len, AllByRecursion}
use Rattle.std.proofs.lemmas.Bool.{eqb-true, eq-eqb, cases_Bool, cases_lt, lt-ltb, le-ltb, or_parts, or_from}
use Rattle.std.proofs.lemmas.List.Quantifiers.{position-Some}
use Rattle.std.proofs.lemmas.Option.{slice_get-get_or}
use Rattle.lock_messages.specs.Ids.{IsClient}
use Rattle.lock_model.specs.declared.entries.Entry.{Entry}
use Rattle.lock_model.specs.ExactStations.{is_of, knows, entry_of, EachOnce}
use Rattle.lock_model.specs.ExactDecisions.{moved_last}
use Rattle.stable_record.specs.EntryLists.{AreEntries, HasClient, IsPlaceOf, replaced}

pub same-turned : (a b : ℕ) → (a == b) ≡ (b == a)
same-turned a b = go (cases_Bool (a == b)) (cases_Bool (b == a))
  where
    go : ((a == b) ≡ true) ⊎ ((a == b) ≡ false) → ((b == a) ≡ true) ⊎ ((b == a) ≡ false) → (a == b) ≡ (b == a)
    go (inl p) (inl q) = p ∙ sym q
    go (inl p) (inr q) = let z : true ≡ false = sym (eq-eqb b a (sym (eqb-true a b p))) ∙ q in cc
    go (inr p) (inl q) = let z : true ≡ false = sym (eq-eqb a b (sym (eqb-true b a q))) ∙ p in cc
    go (inr p) (inr q) = p ∙ sym q

-- an entry of a client that isn't known replaces none
pub replaced-unknown : (f : Entry) (es : List Entry) → knows f.client es ≡ false → replaced f es ≡ es
replaced-unknown f [] h = refl
replaced-unknown f (e ∷ es) h =
    let k = or_parts (is_of f.client e) (knows f.client es) h in
    ap (λ b. cond b f e ∷ replaced f es) k.0 ∙ ap (λ (l : List Entry). e ∷ l) (replaced-unknown f es k.1)

abbrev pub others : ℕ → List Entry → List Entry
others c es = filter (λ e. not (is_of c e)) es

pub others-unknown : (c : ℕ) (es : List Entry) → knows c es ≡ false → others c es ≡ es
others-unknown c [] h = refl
others-unknown c (e ∷ es) h =
    let k = or_parts (is_of c e) (knows c es) h in
    ap (λ b. cond (not b) (e ∷ others c es) (others c es)) k.0 ∙ ap (λ (l : List Entry). e ∷ l) (others-unknown c es k.1)

pub unknown-others : (c : ℕ) (es : List Entry) → knows c (others c es) ≡ false
unknown-others c [] = refl
unknown-others c (e ∷ es) = go (unknown-others c es) (is_of c e) refl
  where
    go : knows c (others c es) ≡ false → (b : Bool) → is_of c e ≡ b → knows c (others c (e ∷ es)) ≡ false
    go rest true is = ap (λ b. knows c (cond (not b) (e ∷ others c es) (others c es))) is ∙ rest
    go rest false is = ap (λ b. knows c (cond (not b) (e ∷ others c es) (others c es))) is ∙ ap (λ b. b || knows c (others c es)) is ∙ rest

pub known-last : (c : ℕ) (fs : List Entry) (e : Entry) → e.client ≡ c → knows c (fs ++ e ∷ []) ≡ true
known-last c [] e is = ap (λ b. b || false) (eq-eqb e.client c is)
known-last c (f ∷ fs) e is = go (is_of c f) (known-last c fs e is)
  where
    go : (b : Bool) → knows c (fs ++ e ∷ []) ≡ true → (b || knows c (fs ++ e ∷ [])) ≡ true
    go true k = refl
    go false k = k

-- ---- where a client's entry is

pub known-at : (c : ℕ) (es : List Entry) (i : ℕ) → IsPlaceOf c es i → knows c es ≡ true
known-at c [] i h = let none : None ≡ Some h.0 = h.1 in cc
known-at c (x ∷ es) zero h =
    let same : x ≡ h.0 = cc in
    ap (λ b. b || knows c es) (eq-eqb x.client c (ap (λ (e : Entry). e.client) same ∙ h.2))
known-at c (x ∷ es) (suc i) h = go (is_of c x) (known-at c es i h)
  where
    go : (b : Bool) → knows c es ≡ true → (b || knows c es) ≡ true
    go true k = refl
    go false k = k

-- where a later entry is the client's, the first is another's
other-first : (c : ℕ) (x : Entry) (es : List Entry) (i : ℕ) → EachOnce (x ∷ es) → IsPlaceOf c es i → is_of c x ≡ false
other-first c x es i once h = go (cases_Bool (is_of c x))
  where
    go : (is_of c x ≡ true) ⊎ (is_of c x ≡ false) → is_of c x ≡ false
    go (inl p) =
        let clash : true ≡ false = sym (known-at c es i h) ∙ ap (λ k. knows k es) (sym (eqb-true x.client c p)) ∙ once.0 in
        cc
    go (inr p) = p

-- a client that has an entry is one that there can be
pub client-at : (c : ℕ) (es : List Entry) (i : ℕ) → AllByRecursion HasClient es → IsPlaceOf c es i → IsClient c
client-at c [] i good h = let none : None ≡ Some h.0 = h.1 in cc
client-at c (x ∷ es) zero good h =
    let same : x ≡ h.0 = cc in
    subst IsClient (ap (λ (e : Entry). e.client) same ∙ h.2) good.0
client-at c (x ∷ es) (suc i) good h = client-at c es i good.1 h

-- the entry there is the one that the client has
pub found-at : (c : ℕ) (es : List Entry) (i : ℕ) → EachOnce es → IsPlaceOf c es i → slice_get es i ≡ entry_of es c
found-at c [] i once h = let none : None ≡ Some h.0 = h.1 in cc
found-at c (x ∷ es) zero once h =
    let same : x ≡ h.0 = cc in
    sym (ap (λ b. cond b (Some x) (entry_of es c)) (eq-eqb x.client c (ap (λ (e : Entry). e.client) same ∙ h.2)))
found-at c (x ∷ es) (suc i) once h =
    found-at c es i once.1 h ∙ sym (ap (λ b. cond b (Some x) (entry_of es c)) (other-first c x es i once h))

-- put there, an entry of the client's is in the place of its own
pub replaced-at : (f : Entry) (es : List Entry) (i : ℕ) → EachOnce es → IsPlaceOf f.client es i → slice_set es i f ≡ replaced f es
replaced-at f [] i once h = let none : None ≡ Some h.0 = h.1 in cc
replaced-at f (x ∷ es) zero once h =
    let same : x ≡ h.0 = cc in
    let is : x.client ≡ f.client = ap (λ (e : Entry). e.client) same ∙ h.2 in
    let none : knows f.client es ≡ false = ap (λ k. knows k es) (sym is) ∙ once.0 in
    ap (λ (l : List Entry). f ∷ l) (sym (replaced-unknown f es none))
    ∙ ap (λ b. cond b f x ∷ replaced f es) (sym (eq-eqb x.client f.client is))
replaced-at f (x ∷ es) (suc i) once h =
    ap (λ (l : List Entry). x ∷ l) (replaced-at f es i once.1 h)
    ∙ ap (λ b. cond b f x ∷ replaced f es) (sym (other-first f.client x es i once h))

-- without the entry there those of the others are left
pub removed-at : (c : ℕ) (es : List Entry) (i : ℕ) → EachOnce es → IsPlaceOf c es i → take i es ++ drop (suc i) es ≡ others c es
removed-at c [] i once h = let none : None ≡ Some h.0 = h.1 in cc
removed-at c (x ∷ es) zero once h =
    let same : x ≡ h.0 = cc in
    let is : x.client ≡ c = ap (λ (e : Entry). e.client) same ∙ h.2 in
    let none : knows c es ≡ false = ap (λ k. knows k es) (sym is) ∙ once.0 in
    sym (others-unknown c es none) ∙ sym (ap (λ b. cond (not b) (x ∷ others c es) (others c es)) (eq-eqb x.client c is))
removed-at c (x ∷ es) (suc i) once h =
    ap (λ (l : List Entry). x ∷ l) (removed-at c es i once.1 h)
    ∙ sym (ap (λ b. cond (not b) (x ∷ others c es) (others c es)) (other-first c x es i once h))

-- ---- the first place at which a test passes

one-more-below : (a b : ℕ) → nat_lt (1 + a) (suc b) ≡ nat_lt a b
one-more-below a b = elim (cases_lt a b) [
  | inl below ↦ lt-ltb (1 + a) (suc b) (omega (arith, below)) ∙ sym (lt-ltb a b below)
  | inr past ↦ le-ltb (1 + a) (suc b) (omega (arith, past)) ∙ sym (le-ltb a b past)
]

some-cond : (b : Bool) (n : ℕ) → is_some (cond b (Some n) None) ≡ b
some-cond true n = refl
some-cond false n = refl

passes-below : {A : Type 0} (p : A → Bool) (xs : List A) → nat_lt (position_or_len p xs) (length xs) ≡ list_any p xs
passes-below p [] = refl
passes-below {A} p (x ∷ xs) = go (p x) (one-more-below (position_or_len p xs) (length xs) ∙ passes-below p xs)
  where
    here : ℕ
    here = position_or_len p xs

    go : (b : Bool) → nat_lt (1 + here) (suc (length xs)) ≡ list_any p xs → nat_lt (cond (not b) (1 + here) 0) (suc (length xs)) ≡ (b || list_any p xs)
    go true below = lt-ltb 0 (suc (length xs)) (omega arith)
    go false below = below

-- there is one exactly where some element passes
pub place-some : {A : Type 0} (p : A → Bool) (xs : List A) → is_some (position p xs) ≡ list_any p xs
place-some p xs = some-cond (nat_lt (position_or_len p xs) (length xs)) (position_or_len p xs) ∙ passes-below p xs

-- stands for an entry where there is none
abbrev pub nobody : Entry
nobody = record { client = 0; floor = 0; live = None }

-- the first place of an entry of the client's is where its entry is
pub first-place : (c : ℕ) (es : List Entry) (o : Option ℕ) → o ≡ position (is_of c) es → IfSome o (IsPlaceOf c es)
first-place c es None is = tt
first-place c es (Some i) is =
    let at = position-Some (is_of c) es i nobody (sym is) in
    (get_or es i nobody, slice_get-get_or es i nobody at.0, eqb-true (get_or es i nobody).client c at.1)

-- ---- what stays where entries are replaced, moved and added

knows-push : (c : ℕ) (es : List Entry) (e : Entry) → knows c es ≡ false → (e.client == c) ≡ false → knows c (es ++ e ∷ []) ≡ false
knows-push c [] e h k = or_from (e.client == c) false k refl
knows-push c (x ∷ es) e h k =
    let p = or_parts (is_of c x) (knows c es) h in
    or_from (is_of c x) (knows c (es ++ e ∷ [])) p.0 (knows-push c es e p.1 k)

pub once-push : (es : List Entry) (e : Entry) → EachOnce es → knows e.client es ≡ false → EachOnce (es ++ e ∷ [])
once-push [] e o h = (refl, tt)
once-push (x ∷ es) e o h =
    let p = or_parts (is_of e.client x) (knows e.client es) h in
    (knows-push x.client es e o.0 (same-turned e.client x.client ∙ p.0), once-push es e o.1 p.1)

abbrev pub put_in : Entry → Entry → Entry
put_in f e = cond (is_of f.client e) f e

put-client : (f e : Entry) → (put_in f e).client ≡ e.client
put-client f e = go (is_of f.client e) refl
  where
    go : (b : Bool) → is_of f.client e ≡ b → (cond b f e).client ≡ e.client
    go true is = sym (eqb-true e.client f.client is)
    go false is = refl

knows-replaced : (c : ℕ) (f : Entry) (es : List Entry) → knows c (replaced f es) ≡ knows c es
knows-replaced c f [] = refl
knows-replaced c f (e ∷ es) = ap (λ k. (k == c) || knows c (replaced f es)) (put-client f e) ∙ ap (λ b. is_of c e || b) (knows-replaced c f es)

once-replaced : (f : Entry) (es : List Entry) → EachOnce es → EachOnce (replaced f es)
once-replaced f [] h = tt
once-replaced f (e ∷ es) h =
    (knows-replaced (put_in f e).client f es ∙ ap (λ k. knows k es) (put-client f e) ∙ h.0, once-replaced f es h.1)

clients-replaced : (f : Entry) (es : List Entry) → HasClient f → AllByRecursion HasClient es → AllByRecursion HasClient (replaced f es)
clients-replaced f [] good h = tt
clients-replaced f (e ∷ es) good h = (go (is_of f.client e), clients-replaced f es good h.1)
  where
    go : (b : Bool) → HasClient (cond b f e)
    go true = good
    go false = h.0

pub still-replaced : (f : Entry) (es : List Entry) → HasClient f → AreEntries es → AreEntries (replaced f es)
still-replaced f es good h = record { once = once-replaced f es h.once; clients = clients-replaced f es good h.clients }

knows-others : (d c : ℕ) (es : List Entry) → knows d es ≡ false → knows d (others c es) ≡ false
knows-others d c [] h = refl
knows-others d c (e ∷ es) h = let parts = or_parts (is_of d e) (knows d es) h in go (is_of c e) parts.0 (knows-others d c es parts.1)
  where
    go : (b : Bool) → is_of d e ≡ false → knows d (others c es) ≡ false → knows d (cond (not b) (e ∷ others c es) (others c es)) ≡ false
    go true first rest = rest
    go false first rest = or_from (is_of d e) (knows d (others c es)) first rest

once-others : (c : ℕ) (es : List Entry) → EachOnce es → EachOnce (others c es)
once-others c [] h = tt
once-others c (e ∷ es) h = go (is_of c e) (once-others c es h.1)
  where
    go : (b : Bool) → EachOnce (others c es) → EachOnce (cond (not b) (e ∷ others c es) (others c es))
    go true rest = rest
    go false rest = (knows-others e.client c es h.0, rest)

clients-others : (c : ℕ) (es : List Entry) → AllByRecursion HasClient es → AllByRecursion HasClient (others c es)
clients-others c [] h = tt
clients-others c (e ∷ es) h = go (is_of c e) (clients-others c es h.1)
  where
    go : (b : Bool) → AllByRecursion HasClient (others c es) → AllByRecursion HasClient (cond (not b) (e ∷ others c es) (others c es))
    go true rest = rest
    go false rest = (h.0, rest)

clients-push : (es : List Entry) (f : Entry) → HasClient f → AllByRecursion HasClient es → AllByRecursion HasClient (es ++ f ∷ [])
clients-push [] f good h = (good, tt)
clients-push (e ∷ es) f good h = (h.0, clients-push es f good h.1)

pub still-pushed : (f : Entry) (es : List Entry) → HasClient f → knows f.client es ≡ false → AreEntries es → AreEntries (es ++ f ∷ [])
still-pushed f es good new h = record { once = once-push es f h.once new; clients = clients-push es f good h.clients }

-- taken out there, and put behind the others
pub moved-at : (f : Entry) (es : List Entry) (i : ℕ) → EachOnce es → IsPlaceOf f.client es i → (take i es ++ drop (suc i) es) ++ f ∷ [] ≡ moved_last f es
moved-at f es i once h = ap (λ (l : List Entry). l ++ f ∷ []) (removed-at f.client es i once h)

pub still-moved : (f : Entry) (es : List Entry) → HasClient f → AreEntries es → AreEntries (moved_last f es)
still-moved f es good h =
    still-pushed f (others f.client es) good (unknown-others f.client es)
    (record { once = once-others f.client es h.once; clients = clients-others f.client es h.clients })
