-- Looking up entries: what a list of entries, each client once, says of its clients.
use Rattle.std.proofs.Common.{◌≡◌, ◌≢◌, ℕ, ◌==◌, ◌⊎◌, Bool, true, false, ◌||◌, cond, List, [], ◌∷◌, ◌++◌, Option, Some, None, refl, sym, ◌∙◌, ap, subst, inl, inr}
use Rattle.std.specs.List.{AllByRecursion, list_any}
use Rattle.std.proofs.lemmas.Bool.{eqb-true, eq-eqb, cases_Bool, or_cases, or_parts, or_left, or_right}
use Rattle.std.proofs.lemmas.Bool.Decides.{eqb_tells}
use Rattle.lock_messages.specs.declared.tickets.Mode.{Mode}
use Rattle.lock_model.specs.declared.entries.Entry.{Entry}
use Rattle.lock_model.specs.declared.entries.Live.{Live}
use Rattle.lock_model.specs.declared.entries.Status.{Status}
use Rattle.lock_model.specs.Stations.{Has}
use Rattle.lock_model.specs.Decisions.{Among}
use Rattle.lock_model.specs.ExactStations.{is_of, knows, entry_of, claim_of, standing_of, EachOnce, if_live, any_live}

-- tests over lists

pub any-found : {A : Type 0} (p : A → Bool) (xs : List A) → list_any p xs ≡ true → (x : A) × Among x xs × (p x ≡ true)
any-found p [] h = cc
any-found {A} p (x ∷ xs) h = go (or_cases (p x) (list_any p xs) h) (any-found p xs)
  where
    go : (p x ≡ true) ⊎ (list_any p xs ≡ true) → (list_any p xs ≡ true → (y : A) × Among y xs × (p y ≡ true)) → (y : A) × Among y (x ∷ xs) × (p y ≡ true)
    go (inl e) ih = (x, inl refl, e)
    go (inr e) ih = let f = ih e in (f.0, inr f.1, f.2)

pub any-of : {A : Type 0} (p : A → Bool) (xs : List A) (x : A) → Among x xs → p x ≡ true → list_any p xs ≡ true
any-of p [] x m h = absurd m
any-of p (y ∷ ys) x (inl e) h = or_left (p y) (list_any p ys) (ap p (sym e) ∙ h)
any-of p (y ∷ ys) x (inr m) h = or_right (p y) (list_any p ys) (any-of p ys x m h)

pub any-none : {A : Type 0} (p : A → Bool) (xs : List A) (x : A) → list_any p xs ≡ false → Among x xs → p x ≡ false
any-none p [] x h m = absurd m
any-none p (y ∷ ys) x h (inl e) = ap p e ∙ (or_parts (p y) (list_any p ys) h).0
any-none p (y ∷ ys) x h (inr m) = any-none p ys x (or_parts (p y) (list_any p ys) h).1 m

-- whose entry it is

pub eqb-swap : (a b : ℕ) → (a == b) ≡ false → (b == a) ≡ false
eqb-swap a b h = go (cases_Bool (b == a))
  where
    go : ((b == a) ≡ true) ⊎ ((b == a) ≡ false) → (b == a) ≡ false
    go (inl e) = absurd (let c : true ≡ false = sym (eq-eqb a b (sym (eqb-true b a e))) ∙ h in cc)
    go (inr e) = e

or-turn : (a b c : Bool) → (a || (b || c)) ≡ (b || (a || c))
or-turn true true c = refl
or-turn true false c = refl
or-turn false b c = refl

pub knows-middle : (c : ℕ) (xs : List Entry) (e : Entry) (ys : List Entry) → knows c (xs ++ e ∷ ys) ≡ (is_of c e || knows c (xs ++ ys))
knows-middle c [] e ys = refl
knows-middle c (x ∷ xs) e ys = ap (λ b. is_of c x || b) (knows-middle c xs e ys) ∙ or-turn (is_of c x) (is_of c e) (knows c (xs ++ ys))

-- what each of a list with an entry in its middle says
pub record Middle (xs : List Entry) (e : Entry) (ys : List Entry) : Type 0 where
  pub new : knows e.client (xs ++ ys) ≡ false
  pub rest : EachOnce (xs ++ ys)

pub once-middle : (xs : List Entry) (e : Entry) (ys : List Entry) → EachOnce (xs ++ e ∷ ys) → Middle xs e ys
once-middle [] e ys h = record { new = h.0; rest = h.1 }
once-middle (x ∷ xs) e ys h =
    let m = once-middle xs e ys h.1 in
    let k = or_parts (is_of x.client e) (knows x.client (xs ++ ys)) (sym (knows-middle x.client xs e ys) ∙ h.0) in
    record {
      new = go (is_of e.client x) (knows e.client (xs ++ ys)) (eqb-swap e.client x.client k.0) m.new;
      rest = (k.1, m.rest);
    }
  where
    go : (a b : Bool) → a ≡ false → b ≡ false → (a || b) ≡ false
    go true b p q = p
    go false b p q = q

pub once-put : (xs : List Entry) (e : Entry) (ys : List Entry) → Middle xs e ys → EachOnce (xs ++ e ∷ ys)
once-put [] e ys m = (m.new, m.rest)
once-put (x ∷ xs) e ys m =
    let k = or_parts (is_of e.client x) (knows e.client (xs ++ ys)) m.new in (
      knows-middle x.client xs e ys ∙ go (is_of x.client e) (knows x.client (xs ++ ys)) (eqb-swap x.client e.client k.0) m.rest.0,
      once-put xs e ys (record { new = k.1; rest = m.rest.1 }),
    )
  where
    go : (a b : Bool) → a ≡ false → b ≡ false → (a || b) ≡ false
    go true b p q = p
    go false b p q = q

-- another entry of the client in the place of one
pub once-same : (xs : List Entry) (e f : Entry) (ys : List Entry) → f.client ≡ e.client → EachOnce (xs ++ e ∷ ys) → EachOnce (xs ++ f ∷ ys)
once-same xs e f ys s h =
    let m = once-middle xs e ys h in
    once-put xs f ys (record { new = ap (λ c. knows c (xs ++ ys)) s ∙ m.new; rest = m.rest })

turn-choice : (b d : Bool) {A : Type 0} (x y z : A) → (b ≡ true → d ≡ false) → cond b x (cond d y z) ≡ cond d y (cond b x z)
turn-choice true true x y z h = absurd (let e : true ≡ false = h refl in cc)
turn-choice true false x y z h = refl
turn-choice false true x y z h = refl
turn-choice false false x y z h = refl

pub entry_of-middle : (xs : List Entry) (e : Entry) (ys : List Entry) → knows e.client (xs ++ ys) ≡ false → (d : ℕ) →
    entry_of (xs ++ e ∷ ys) d ≡ cond (is_of d e) (Some e) (entry_of (xs ++ ys) d)
entry_of-middle [] e ys k d = refl
entry_of-middle (x ∷ xs) e ys k d =
    let parts = or_parts (is_of e.client x) (knows e.client (xs ++ ys)) k in
    let apart : is_of d x ≡ true → is_of d e ≡ false = λ h. ap (λ n. e.client == n) (sym (eqb-true x.client d h)) ∙ eqb-swap x.client e.client parts.0 in
    ap (λ r. cond (is_of d x) (Some x) r) (entry_of-middle xs e ys parts.1 d) ∙ turn-choice (is_of d x) (is_of d e) (Some x) (Some e) (entry_of (xs ++ ys) d) apart

pub entry_of-here : (xs : List Entry) (e : Entry) (ys : List Entry) → Middle xs e ys → entry_of (xs ++ e ∷ ys) e.client ≡ Some e
entry_of-here xs e ys m =
    entry_of-middle xs e ys m.new e.client ∙ ap (λ b. cond b (Some e) (entry_of (xs ++ ys) e.client)) (eq-eqb e.client e.client refl)

pub entry_of-other : (xs : List Entry) (e : Entry) (ys : List Entry) → Middle xs e ys → (d : ℕ) → d ≢ e.client → entry_of (xs ++ e ∷ ys) d ≡ entry_of (xs ++ ys) d
entry_of-other xs e ys m d other = entry_of-middle xs e ys m.new d ∙ go (eqb_tells e.client d)
  where
    go : ((is_of d e ≡ true) × (e.client ≡ d)) ⊎ ((is_of d e ≡ false) × (e.client ≢ d)) → cond (is_of d e) (Some e) (entry_of (xs ++ ys) d) ≡ entry_of (xs ++ ys) d
    go (inl h) = absurd (other (sym h.1))
    go (inr h) = ap (λ b. cond b (Some e) (entry_of (xs ++ ys) d)) h.0

-- an entry that is found is one of the list, and the client's
pub entry_of-found : (es : List Entry) (c : ℕ) (e : Entry) → entry_of es c ≡ Some e → Among e es × (e.client ≡ c)
entry_of-found [] c e h = cc
entry_of-found (x ∷ es) c e h = go (cases_Bool (is_of c x)) (entry_of-found es c e)
  where
    go : (is_of c x ≡ true) ⊎ (is_of c x ≡ false) → (entry_of es c ≡ Some e → Among e es × (e.client ≡ c)) → Among e (x ∷ es) × (e.client ≡ c)
    go (inl t) ih =
        let same : x ≡ e = let s : Some x ≡ Some e = sym (ap (λ b. cond b (Some x) (entry_of es c)) t) ∙ h in cc in
        (inl (sym same), ap (λ (y : Entry). y.client) (sym same) ∙ eqb-true x.client c t)
    go (inr f) ih = let r = ih (sym (ap (λ b. cond b (Some x) (entry_of es c)) f) ∙ h) in (inr r.0, r.1)

-- and is as all are
pub all-at : (P : Entry → Type 0) (es : List Entry) (c : ℕ) (e : Entry) → AllByRecursion P es → entry_of es c ≡ Some e → P e
all-at P es c e a h = go es a (entry_of-found es c e h).0
  where
    go : (xs : List Entry) → AllByRecursion P xs → Among e xs → P e
    go [] a m = absurd m
    go (x ∷ xs) a (inl s) = subst P (sym s) a.0
    go (x ∷ xs) a (inr m) = go xs a.1 m

-- one of the list is found by its client
pub entry_of-among : (es : List Entry) (e : Entry) → EachOnce es → Among e es → entry_of es e.client ≡ Some e
entry_of-among [] e o m = absurd m
entry_of-among (x ∷ es) e o (inl s) =
    ap (λ b. cond b (Some x) (entry_of es e.client)) (eq-eqb x.client e.client (ap (λ (y : Entry). y.client) (sym s))) ∙ ap Some (sym s)
entry_of-among (x ∷ es) e o (inr m) =
    ap (λ b. cond b (Some x) (entry_of es e.client)) (eqb-swap e.client x.client (any-none (is_of x.client) es e o.0 m)) ∙ entry_of-among es e o.1 m

-- a client with a claim has an entry with a live ticket
pub record Found (es : List Entry) (c : ℕ) (m : Mode) (x : List ℕ) (status : Status) : Type 0 where
  pub entry : Entry
  pub live : Live
  pub entry_is : entry_of es c ≡ Some entry
  pub live_is : entry.live ≡ Some live
  pub mode_is : live.mode ≡ m
  pub resource_is : live.resource ≡ x
  pub status_is : live.status ≡ status

claim-found : (o : Option Live) (m : Mode) (x : List ℕ) (status : Status) → claim_of o ≡ Has m x status →
    (l : Live) × (o ≡ Some l) × (l.mode ≡ m) × (l.resource ≡ x) × (l.status ≡ status)
claim-found None m x status h = cc
claim-found (Some l) m x status h = (l, refl, cc, cc, cc)

standing-found : (es : List Entry) (c : ℕ) (o : Option Entry) (m : Mode) (x : List ℕ) (status : Status) → entry_of es c ≡ o →
    (standing_of o).claim ≡ Has m x status → Found es c m x status
standing-found es c None m x status e h = cc
standing-found es c (Some f) m x status e h =
    let l = claim-found f.live m x status h in
    record { entry = f; live = l.0; entry_is = e; live_is = l.1; mode_is = l.2; resource_is = l.3; status_is = l.4 }

pub has-found : (es : List Entry) (c : ℕ) (m : Mode) (x : List ℕ) (status : Status) → (standing_of (entry_of es c)).claim ≡ Has m x status → Found es c m x status
has-found es c m x status h = standing-found es c (entry_of es c) m x status refl h

pub found-has : (es : List Entry) (c : ℕ) (m : Mode) (x : List ℕ) (status : Status) → Found es c m x status → (standing_of (entry_of es c)).claim ≡ Has m x status
found-has es c m x status f =
    ap (λ o. (standing_of o).claim) f.entry_is ∙ ap claim_of f.live_is
    ∙ ap (λ w. Has w f.live.resource f.live.status) f.mode_is ∙ ap (λ w. Has m w f.live.status) f.resource_is ∙ ap (λ w. Has m x w) f.status_is

pub if_live-found : (test : Live → Bool) (o : Option Live) → if_live test o ≡ true → (l : Live) × (o ≡ Some l) × (test l ≡ true)
if_live-found test None h = cc
if_live-found test (Some l) h = (l, refl, h)

-- some live ticket passes exactly where some client's does
pub any_live-found : (test : Live → Bool) (es : List Entry) → EachOnce es → any_live test es ≡ true →
    (e : Entry) × (l : Live) × (entry_of es e.client ≡ Some e) × (e.live ≡ Some l) × (test l ≡ true)
any_live-found test es o h =
    let f = any-found (λ e. if_live test e.live) es h in
    let l = if_live-found test (f.0).live f.2 in
    (f.0, l.0, entry_of-among es f.0 o f.1, l.1, l.2)

pub any_live-of : (test : Live → Bool) (es : List Entry) (c : ℕ) (e : Entry) (l : Live) → entry_of es c ≡ Some e → e.live ≡ Some l → test l ≡ true → any_live test es ≡ true
any_live-of test es c e l f s h = any-of (λ e. if_live test e.live) es e (entry_of-found es c e f).0 (ap (if_live test) s ∙ h)
