-- Ending a client's attempts, in place.
use Rattle.std.proofs.Common.{◌≡◌, ◌≢◌, ◌⊎◌, inl, inr, ℕ, ◌+◌, ◌<◌, ◌≤◌, ◌==◌, Bool, true, false, not, ◌||◌, ◌&&◌, cond, nat_lt, List, [], ◌∷◌, ◌++◌, filter, map, Option, Some, None, refl, sym, ap, ◌∙◌, arith}
use Rattle.std.proofs.lemmas.Bool.{eqb-true, eq-eqb, cases_Bool, or_parts, or_right}
use Rattle.std.proofs.lemmas.Bool.Decides.{Decides-ltb}
use Rattle.lock_model.specs.declared.entries.Entry.{Entry}
use Rattle.lock_model.specs.ExactStations.{is_of, knows, entry_of, EachOnce}
use Rattle.lock_model.specs.ExactDecisions.{ended_entry, ended, moved_last}
use Rattle.stable_record.specs.EntryLists.{replaced}
use Rattle.stable_record.proofs.IndexFacts.{nowhere}
use Rattle.stable_record.proofs.ListFacts.{known-last, replaced-unknown}
use Rattle.voter_core.specs.Voters.{ends_something}

pub none-entry : (o : Option Entry) → ((x : Entry) → o ≡ Some x → ⊥) → o ≡ None
none-entry None h = refl
none-entry (Some x) h = absurd (h x refl)

pub known-entry : (c : ℕ) (es : List Entry) (e : Entry) → entry_of es c ≡ Some e → (knows c es ≡ true) × (e.client ≡ c)
known-entry c [] e h = cc
known-entry c (d ∷ es) e h = go (λ k. known-entry c es e k) (is_of c d) refl
  where
    go : (entry_of es c ≡ Some e → (knows c es ≡ true) × (e.client ≡ c)) → (b : Bool) → is_of c d ≡ b → (knows c (d ∷ es) ≡ true) × (e.client ≡ c)
    go more true is =
        let z : Some d ≡ Some e = sym (ap (λ b. cond b (Some d) (entry_of es c)) is) ∙ h in
        let same : d ≡ e = cc in
        (ap (λ b. b || knows c es) is, sym (ap (λ (x : Entry). x.client) same) ∙ eqb-true d.client c is)
    go more false is =
        let m = more (sym (ap (λ b. cond b (Some d) (entry_of es c)) is) ∙ h) in
        (or_right (is_of c d) (knows c es) m.0, m.1)

-- the client's entry, altered where it stands
abbrev pub altered : ℕ → (Entry → Entry) → List Entry → List Entry
altered c f es = map (λ e. cond (is_of c e) (f e) e) es

pub altered-unknown : (c : ℕ) (f : Entry → Entry) (es : List Entry) → knows c es ≡ false → altered c f es ≡ es
altered-unknown c f [] h = refl
altered-unknown c f (e ∷ es) h =
    let k = or_parts (is_of c e) (knows c es) h in
    ap (λ b. cond b (f e) e ∷ altered c f es) k.0 ∙ ap (λ (l : List Entry). e ∷ l) (altered-unknown c f es k.1)

-- where the entry becomes g, the entries have g in its place
pub altered-replaces : (c : ℕ) (f : Entry → Entry) (es : List Entry) (e g : Entry) → EachOnce es → entry_of es c ≡ Some e → f e ≡ g → g.client ≡ c → altered c f es ≡ replaced g es
altered-replaces c f [] e g once h is client = refl
altered-replaces c f (d ∷ es) e g once h is client = go (λ k. altered-replaces c f es e g once.1 k is client) (is_of c d) refl
  where
    turned : is_of g.client d ≡ is_of c d
    turned = ap (λ k. d.client == k) client

    go : (entry_of es c ≡ Some e → altered c f es ≡ replaced g es) → (b : Bool) → is_of c d ≡ b → altered c f (d ∷ es) ≡ replaced g (d ∷ es)
    go more true here =
        let z : Some d ≡ Some e = sym (ap (λ b. cond b (Some d) (entry_of es c)) here) ∙ h in
        let same : d ≡ e = cc in
        let none : knows c es ≡ false = ap (λ k. knows k es) (sym (eqb-true d.client c here)) ∙ once.0 in
        ap (λ b. cond b (f d) d ∷ altered c f es) here ∙ ap (λ x. f x ∷ altered c f es) same ∙ ap (λ x. x ∷ altered c f es) is
        ∙ ap (λ (l : List Entry). g ∷ l) (altered-unknown c f es none ∙ sym (replaced-unknown g es (ap (λ k. knows k es) client ∙ none)))
        ∙ sym (ap (λ b. cond b g d ∷ replaced g es) (turned ∙ here))
    go more false here =
        ap (λ b. cond b (f d) d ∷ altered c f es) here
        ∙ ap (λ (l : List Entry). d ∷ l) (more (sym (ap (λ b. cond b (Some d) (entry_of es c)) here) ∙ h))
        ∙ sym (ap (λ b. cond b g d ∷ replaced g es) (turned ∙ here))

-- where the entry stays nothing is altered
pub altered-same : (c : ℕ) (f : Entry → Entry) (es : List Entry) (e : Entry) → EachOnce es → entry_of es c ≡ Some e → f e ≡ e → altered c f es ≡ es
altered-same c f [] e once h is = refl
altered-same c f (d ∷ es) e once h is = go (λ k. altered-same c f es e once.1 k is) (is_of c d) refl
  where
    go : (entry_of es c ≡ Some e → altered c f es ≡ es) → (b : Bool) → is_of c d ≡ b → altered c f (d ∷ es) ≡ d ∷ es
    go more true here =
        let z : Some d ≡ Some e = sym (ap (λ b. cond b (Some d) (entry_of es c)) here) ∙ h in
        let same : d ≡ e = cc in
        let none : knows c es ≡ false = ap (λ k. knows k es) (sym (eqb-true d.client c here)) ∙ once.0 in
        ap (λ b. cond b (f d) d ∷ altered c f es) here ∙ ap (λ x. f x ∷ altered c f es) same ∙ ap (λ x. x ∷ altered c f es) (is ∙ sym same)
        ∙ ap (λ (l : List Entry). d ∷ l) (altered-unknown c f es none)
    go more false here =
        ap (λ b. cond b (f d) d ∷ altered c f es) here
        ∙ ap (λ (l : List Entry). d ∷ l) (more (sym (ap (λ b. cond b (Some d) (entry_of es c)) here) ∙ h))

-- the client's entry, ended where it stands
abbrev pub ends_in : ℕ → ℕ → List Entry → List Entry
ends_in c a es = altered c (ended_entry a) es

-- where the floor is high enough nothing ends
pub ends-nothing : (c a : ℕ) (es : List Entry) (e : Entry) → EachOnce es → entry_of es c ≡ Some e → nat_lt e.floor a ≡ false → ends_in c a es ≡ es
ends-nothing c a es e once h low = altered-same c (ended_entry a) es e once h (ap (λ b. cond b (record { client = e.client; floor = a; live = None }) e) low)

abbrev pub fresh : ℕ → ℕ → Entry
fresh c a = record { client = c; floor = a; live = None }

pub ended-known : (c a : ℕ) (es : List Entry) → knows c es ≡ true → ended c a es ≡ ends_in c a es
ended-known c a es h = ap (λ b. cond b (ends_in c a es) (es ++ fresh c a ∷ [])) h

pub ended-unknown : (c a : ℕ) (es : List Entry) → knows c es ≡ false → ended c a es ≡ es ++ fresh c a ∷ []
ended-unknown c a es h = ap (λ b. cond b (ends_in c a es) (es ++ fresh c a ∷ [])) h

-- a stranger's entry is pushed, where memory is there
pub pushed-ends : (c a : ℕ) (es new : List Entry) (ok : Bool) → entry_of es c ≡ None → new ≡ cond (ok && not (knows c es)) (es ++ fresh c a ∷ []) es → new ≡ cond ok (ended c a es) es
pushed-ends c a es new ok none h = h ∙ ap (λ b. cond (ok && not b) (es ++ fresh c a ∷ []) es) (nowhere c es none) ∙ go ok
  where
    go : (b : Bool) → cond (b && true) (es ++ fresh c a ∷ []) es ≡ cond b (ended c a es) es
    go true = sym (ended-unknown c a es (nowhere c es none))
    go false = refl

pub pushed-changes : (c a : ℕ) (es : List Entry) (b : Bool) → entry_of es c ≡ None → b ≡ not (knows c es) → b ≡ ends_something a (entry_of es c)
pushed-changes c a es b none h = h ∙ ap not (nowhere c es none) ∙ sym (ap (ends_something a) none)

not-below : (m n : ℕ) → n ≤ m → nat_lt m n ≡ false
not-below m n h = go (cases_Bool (nat_lt m n))
  where
    go : (nat_lt m n ≡ true) ⊎ (nat_lt m n ≡ false) → nat_lt m n ≡ false
    go (inl p) = let q = (Decides-ltb m n).0 p in absurd (omega arith)
    go (inr p) = p

-- an entry whose floor is high enough stays
pub stays-ended : (c a : ℕ) (es : List Entry) (e : Entry) → EachOnce es → Some e ≡ entry_of es c → a ≤ e.floor → es ≡ ended c a es
stays-ended c a es e once h low = sym (ended-known c a es (known-entry c es e (sym h)).0 ∙ ends-nothing c a es e once (sym h) (not-below e.floor a low))

-- any other one is replaced
pub replaced-ends : (c a : ℕ) (es : List Entry) (e : Entry) → EachOnce es → Some e ≡ entry_of es c → e.floor < a → replaced (fresh c a) es ≡ ended c a es
replaced-ends c a es e once h low =
    let known = known-entry c es e (sym h) in
    let is : ended_entry a e ≡ fresh c a = ap (λ b. cond b (record { client = e.client; floor = a; live = None }) e) ((Decides-ltb e.floor a).1 low) ∙ ap (λ k. fresh k a) known.1 in
    sym (ended-known c a es known.0 ∙ altered-replaces c (ended_entry a) es e (fresh c a) once (sym h) is refl)

-- with nothing to end, ended entries are the same
pub ended-same : (c a : ℕ) (es : List Entry) → EachOnce es → ends_something a (entry_of es c) ≡ false → ended c a es ≡ es
ended-same c a es once h = go (entry_of es c) refl
  where
    go : (o : Option Entry) → entry_of es c ≡ o → ended c a es ≡ es
    go None is = let z : true ≡ false = sym (ap (ends_something a) is) ∙ h in cc
    go (Some e) is = ended-known c a es (known-entry c es e is).0 ∙ ends-nothing c a es e once is (sym (ap (ends_something a) is) ∙ h)

knows-ends : (c a : ℕ) (es : List Entry) (d : ℕ) → knows d (ends_in c a es) ≡ knows d es
knows-ends c a [] d = refl
knows-ends c a (e ∷ es) d = ap (λ b. b || knows d (ends_in c a es)) (go (is_of c e) (nat_lt e.floor a)) ∙ ap (λ b. (e.client == d) || b) (knows-ends c a es d)
  where
    go : (b l : Bool) → is_of d (cond b (cond l (record { client = e.client; floor = a; live = None }) e) e) ≡ is_of d e
    go true true = refl
    go true false = refl
    go false l = refl

-- a client whose attempts ended is known
pub knows-ended : (c a : ℕ) (es : List Entry) → knows c (ended c a es) ≡ true
knows-ended c a es = go (knows c es) refl
  where
    go : (b : Bool) → knows c es ≡ b → knows c (ended c a es) ≡ true
    go true is = ap (knows c) (ended-known c a es is) ∙ knows-ends c a es c ∙ is
    go false is = ap (knows c) (ended-unknown c a es is) ∙ known-last c es (fresh c a) refl

-- the floor of a client's entry, if it has one
abbrev pub floor_seen : Option Entry → Option ℕ
floor_seen None = None
floor_seen (Some e) = Some e.floor

pub find-last : (c : ℕ) (es : List Entry) (f : Entry) → knows c es ≡ false → f.client ≡ c → entry_of (es ++ f ∷ []) c ≡ Some f
find-last c [] f none h = ap (λ b. cond b (Some f) None) (eq-eqb f.client c h)
find-last c (e ∷ es) f none h =
    let k = or_parts (is_of c e) (knows c es) none in
    ap (λ b. cond b (Some e) (entry_of (es ++ f ∷ []) c)) k.0 ∙ find-last c es f k.1 h

unknown-others : (c : ℕ) (es : List Entry) → knows c (filter (λ e. not (is_of c e)) es) ≡ false
unknown-others c [] = refl
unknown-others c (e ∷ es) = go (unknown-others c es) (is_of c e) refl
  where
    go : knows c (filter (λ e. not (is_of c e)) es) ≡ false → (b : Bool) → is_of c e ≡ b → knows c (filter (λ e. not (is_of c e)) (e ∷ es)) ≡ false
    go rest true is = ap (λ b. knows c (cond (not b) (e ∷ filter (λ e. not (is_of c e)) es) (filter (λ e. not (is_of c e)) es))) is ∙ rest
    go rest false is = ap (λ b. knows c (cond (not b) (e ∷ filter (λ e. not (is_of c e)) es) (filter (λ e. not (is_of c e)) es))) is ∙ ap (λ b. b || knows c (filter (λ e. not (is_of c e)) es)) is ∙ rest

-- what was moved to the end is found
pub found-moved : (f : Entry) (es : List Entry) → entry_of (moved_last f es) f.client ≡ Some f
found-moved f es = find-last f.client (filter (λ e. not (is_of f.client e)) es) f (unknown-others f.client es) refl

floor-ends : (c a : ℕ) (es : List Entry) (e : Entry) → entry_of es c ≡ Some e → nat_lt e.floor a ≡ true → floor_seen (entry_of (ends_in c a es) c) ≡ Some a
floor-ends c a [] e h low = cc
floor-ends c a (d ∷ es) e h low = go (λ k. floor-ends c a es e k low) (is_of c d) refl
  where
    go : (entry_of es c ≡ Some e → floor_seen (entry_of (ends_in c a es) c) ≡ Some a) → (b : Bool) → is_of c d ≡ b → floor_seen (entry_of (ends_in c a (d ∷ es)) c) ≡ Some a
    go more true here =
        let z : Some d ≡ Some e = sym (ap (λ b. cond b (Some d) (entry_of es c)) here) ∙ h in
        let same : d ≡ e = cc in
        let lower : nat_lt d.floor a ≡ true = ap (λ (x : Entry). nat_lt x.floor a) same ∙ low in
        ap (λ b. floor_seen (entry_of (cond b (cond (nat_lt d.floor a) (record { client = d.client; floor = a; live = None }) d) d ∷ ends_in c a es) c)) here
        ∙ ap (λ b. floor_seen (entry_of (cond b (record { client = d.client; floor = a; live = None }) d ∷ ends_in c a es) c)) lower
        ∙ ap (λ b. floor_seen (cond b (Some (record { client = d.client; floor = a; live = None })) (entry_of (ends_in c a es) c))) here
    go more false here =
        ap (λ b. floor_seen (entry_of (cond b (ended_entry a d) d ∷ ends_in c a es) c)) here
        ∙ ap (λ b. floor_seen (cond b (Some d) (entry_of (ends_in c a es) c))) here
        ∙ more (sym (ap (λ b. cond b (Some d) (entry_of es c)) here) ∙ h)

-- where something ended, the floor is the attempt
pub floor-ended : (c a : ℕ) (es : List Entry) → ends_something a (entry_of es c) ≡ true → floor_seen (entry_of (ended c a es) c) ≡ Some a
floor-ended c a es h = go (entry_of es c) refl
  where
    go : (o : Option Entry) → entry_of es c ≡ o → floor_seen (entry_of (ended c a es) c) ≡ Some a
    go None is =
        let none = nowhere c es is in
        ap (λ l. floor_seen (entry_of l c)) (ended-unknown c a es none) ∙ ap floor_seen (find-last c es (fresh c a) none refl)
    go (Some e) is =
        ap (λ l. floor_seen (entry_of l c)) (ended-known c a es (known-entry c es e is).0) ∙ floor-ends c a es e is (sym (ap (ends_something a) is) ∙ h)

-- and wasn't before
pub floor-before : (c a : ℕ) (es : List Entry) → ends_something a (entry_of es c) ≡ true → floor_seen (entry_of es c) ≢ Some a
floor-before c a es h = go (entry_of es c) refl
  where
    go : (o : Option Entry) → entry_of es c ≡ o → floor_seen (entry_of es c) ≢ Some a
    go None is same = let z : None ≡ Some a = sym (ap floor_seen is) ∙ same in cc
    go (Some e) is same =
        let z : Some e.floor ≡ Some a = sym (ap floor_seen is) ∙ same in
        let y : e.floor ≡ a = cc in
        let low : e.floor < a = (Decides-ltb e.floor a).0 (sym (ap (ends_something a) is) ∙ h) in
        omega (arith, y, low)
