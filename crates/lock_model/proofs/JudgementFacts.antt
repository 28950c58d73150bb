-- The tests on entries say what they are meant to say of the station.
use Rattle.std.proofs.Common.{◌≡◌, ◌↔◌, ℕ, ◌⊎◌, Bool, true, false, not, ◌&&◌, ◌||◌, List, [], ◌∷◌, Option, Some, None, IsTrue, refl, sym, ◌∙◌, ap, subst, inl, inr}
use Rattle.std.specs.List.{list_all}
use Rattle.std.proofs.lemmas.Bool.{eqb-true, eq-eqb, cases_Bool, and_parts, and_from, or_left, or_right, not-true}
use Rattle.lock_messages.specs.declared.tickets.Mode.{Mode}
use Rattle.lock_messages.specs.declared.tickets.Mode.TheVariants.{Write}
use Rattle.lock_model.specs.declared.entries.Entry.{Entry}
use Rattle.lock_model.specs.declared.entries.Live.{Live}
use Rattle.lock_model.specs.declared.entries.Status.{Status}
use Rattle.lock_model.specs.declared.entries.Status.TheVariants.{Waiting}
use Rattle.lock_model.specs.declared.problems.Problem.{Problem}
use Rattle.lock_model.specs.Stations.{IsHolder, Holds, Waits, Cause, IsLawful, IsCaused}
use Rattle.lock_model.specs.Decisions.{Among}
use Rattle.lock_model.specs.ExactStations.{is_of, meaning, EachOnce, is_write, is_waiting, is_holding, if_live, holds, admits}
use Rattle.lock_model.specs.Judgement.{is_only_holder, leaves_alone, is_lawful, has_cause, is_caused}
use Rattle.lock_model.proofs.EntryFacts.{entry_of-found, entry_of-among, Found, has-found, found-has}
use Rattle.lock_model.proofs.SettlingFacts.{waiting-true, holding-true, holder-holding, write-true, holds-from, refused-cause, admitted-free}
use Rattle.std.proofs.lemmas.Slice.Eq.{bytes_eq-Decides}
use Rattle.std.specs.Str.{bytes_eq}

pub all-of : {A : Type 0} (p : A → Bool) (xs : List A) (x : A) → list_all p xs ≡ true → Among x xs → p x ≡ true
all-of p [] x h m = absurd m
all-of p (y ∷ ys) x h (inl e) = ap p e ∙ (and_parts (p y) (list_all p ys) h).0
all-of p (y ∷ ys) x h (inr m) = all-of p ys x (and_parts (p y) (list_all p ys) h).1 m

pub all-from : {A : Type 0} (p : A → Bool) (xs : List A) → ((x : A) → Among x xs → p x ≡ true) → list_all p xs ≡ true
all-from p [] h = refl
all-from p (y ∷ ys) h = and_from (p y) (list_all p ys) (h y (inl refl)) (all-from p ys (λ x m. h x (inr m)))

second-of : (a b : Bool) → not a ≡ false → (not a || b) ≡ true → b ≡ true
second-of true b n h = h
second-of false b n h = absurd (let z : true ≡ false = n in cc)

first-of : (a b : Bool) → b ≡ true → (a || not b) ≡ true → a ≡ true
first-of true b p h = refl
first-of false true p h = absurd (let z : false ≡ true = h in cc)
first-of false false p h = absurd (let z : false ≡ true = p in cc)

-- ---- lawful

writer-alone : (p : Problem) (es : List Entry) → is_lawful es ≡ true → (c d : ℕ) (m : Mode) (x : List ℕ) (v w : Status) → IsHolder v → Found es c Write x v → IsHolder w → Found es d m x w → d ≡ c
writer-alone p es all c d m x v w i f j g =
    let a = entry_of-found es c f.entry f.entry_is in
    let b = entry_of-found es d g.entry g.entry_is in
    let mine : leaves_alone es f.entry.client (Some f.live) ≡ true = ap (leaves_alone es f.entry.client) (sym f.live_is) ∙ all-of (λ e. leaves_alone es e.client e.live) es f.entry all a.0 in
    let writes : (is_write f.live.mode && is_holding f.live.status) ≡ true = and_from (is_write f.live.mode) (is_holding f.live.status) (ap is_write f.mode_is) (holder-holding f.live.status (subst IsHolder (sym f.status_is) i)) in
    let only : is_only_holder es f.entry.client f.live.resource ≡ true = second-of (is_write f.live.mode && is_holding f.live.status) (is_only_holder es f.entry.client f.live.resource) (ap not writes) mine in
    let other : (is_of f.entry.client g.entry || not (if_live (holds f.live.resource) g.entry.live)) ≡ true = all-of (λ e. is_of f.entry.client e || not (if_live (holds f.live.resource) e.live)) es g.entry only b.0 in
    let held : if_live (holds f.live.resource) g.entry.live ≡ true = ap (if_live (holds f.live.resource)) g.live_is ∙ holds-from f.live.resource g.live (subst IsHolder (sym g.status_is) j) (g.resource_is ∙ sym f.resource_is) in
    sym b.1 ∙ eqb-true g.entry.client f.entry.client (first-of (is_of f.entry.client g.entry) (if_live (holds f.live.resource) g.entry.live) held other) ∙ a.1

lawful-from : (p : Problem) (es : List Entry) → EachOnce es → IsLawful (meaning p es) → is_lawful es ≡ true
lawful-from p es o l = all-from (λ e. leaves_alone es e.client e.live) es (λ e m. at e m e.live refl)
  where
    beside : (e : Entry) (k : Live) → Among e es → e.live ≡ Some k → (is_write k.mode && is_holding k.status) ≡ true → (f : Entry) → Among f es →
        (o : Option Live) → f.live ≡ o → (is_of e.client f || not (if_live (holds k.resource) o)) ≡ true
    beside e k m s w f n None t = or_right (is_of e.client f) true refl
    beside e k m s w f n (Some j) t = go (cases_Bool (holds k.resource j))
      where
        go : (holds k.resource j ≡ true) ⊎ (holds k.resource j ≡ false) → (is_of e.client f || not (holds k.resource j)) ≡ true
        go (inr h) = or_right (is_of e.client f) (not (holds k.resource j)) (ap not h)
        go (inl h) =
            let parts = and_parts (is_holding j.status) (bytes_eq j.resource k.resource) h in
            let wparts = and_parts (is_write k.mode) (is_holding k.status) w in
            let mine : Found es e.client Write k.resource k.status = record { entry = e; live = k; entry_is = entry_of-among es e o m; live_is = s; mode_is = write-true k.mode wparts.0; resource_is = refl; status_is = refl } in
            let other : Found es f.client j.mode k.resource j.status = record { entry = f; live = j; entry_is = entry_of-among es f o n; live_is = t; mode_is = refl; resource_is = (bytes_eq-Decides j.resource k.resource).0 parts.1; status_is = refl } in
            let holder : Holds (meaning p es) e.client Write k.resource = (k.status, holding-true k.status wparts.1, found-has es e.client Write k.resource k.status mine) in
            let beside_it : Holds (meaning p es) f.client j.mode k.resource = (j.status, holding-true j.status parts.0, found-has es f.client j.mode k.resource j.status other) in
            or_left (is_of e.client f) (not (holds k.resource j)) (eq-eqb f.client e.client (l.alone e.client f.client j.mode k.resource holder beside_it))

    at : (e : Entry) → Among e es → (o : Option Live) → e.live ≡ o → leaves_alone es e.client o ≡ true
    at e m None s = refl
    at e m (Some k) s = go (cases_Bool (is_write k.mode && is_holding k.status))
      where
        go : ((is_write k.mode && is_holding k.status) ≡ true) ⊎ ((is_write k.mode && is_holding k.status) ≡ false) → leaves_alone es e.client (Some k) ≡ true
        go (inr h) = or_left (not (is_write k.mode && is_holding k.status)) (is_only_holder es e.client k.resource) (ap not h)
        go (inl h) = or_right (not (is_write k.mode && is_holding k.status)) (is_only_holder es e.client k.resource)
            (all-from (λ f. is_of e.client f || not (if_live (holds k.resource) f.live)) es (λ f n. beside e k m s h f n f.live refl))

pub lawful-iff : (p : Problem) (es : List Entry) → EachOnce es → IsTrue (is_lawful es) ↔ IsLawful (meaning p es)
lawful-iff p es o = (
  λ h. record { alone = λ c d m x hc hd. writer-alone p es h c d m x hc.0 hd.0 hc.1 (has-found es c Write x hc.0 hc.2) hd.1 (has-found es d m x hd.0 hd.2) },
  lawful-from p es o,
)

-- ---- caused

ticket-caused : (p : Problem) (es : List Entry) → EachOnce es → is_caused p es ≡ true → (c : ℕ) (m : Mode) (x : List ℕ) → Found es c m x Waiting → Cause (meaning p es) m x
ticket-caused p es o all c m x f =
    let a = entry_of-found es c f.entry f.entry_is in
    let mine : has_cause p es (Some f.live) ≡ true = ap (has_cause p es) (sym f.live_is) ∙ all-of (λ e. has_cause p es e.live) es f.entry all a.0 in
    let refused : not (admits p f.live.mode f.live.resource es) ≡ true = second-of (is_waiting f.live.status) (not (admits p f.live.mode f.live.resource es)) (ap (λ s. not (is_waiting s)) f.status_is) mine in
    let cause = refused-cause p es f.live.mode f.live.resource o (not-true (admits p f.live.mode f.live.resource es) refused) in
    subst (λ y. Cause (meaning p es) m y) f.resource_is (subst (λ n. Cause (meaning p es) n f.live.resource) f.mode_is cause)

caused-from : (p : Problem) (es : List Entry) → EachOnce es → IsCaused (meaning p es) → is_caused p es ≡ true
caused-from p es o l = all-from (λ e. has_cause p es e.live) es (λ e m. at e m e.live refl)
  where
    at : (e : Entry) → Among e es → (o : Option Live) → e.live ≡ o → has_cause p es o ≡ true
    at e m None s = refl
    at e m (Some k) s = go (cases_Bool (is_waiting k.status)) (cases_Bool (admits p k.mode k.resource es))
      where
        go : (is_waiting k.status ≡ true) ⊎ (is_waiting k.status ≡ false) → (admits p k.mode k.resource es ≡ true) ⊎ (admits p k.mode k.resource es ≡ false) → has_cause p es (Some k) ≡ true
        go (inr h) a = or_left (not (is_waiting k.status)) (not (admits p k.mode k.resource es)) (ap not h)
        go (inl h) (inr a) = or_right (not (is_waiting k.status)) (not (admits p k.mode k.resource es)) (ap not a)
        go (inl h) (inl a) =
            let waits : Waits (meaning p es) e.client k.mode k.resource = found-has es e.client k.mode k.resource Waiting (record { entry = e; live = k; entry_is = entry_of-among es e o m; live_is = s; mode_is = refl; resource_is = refl; status_is = waiting-true k.status h }) in
            absurd (admitted-free p es k.mode k.resource a (l.cause e.client k.mode k.resource waits))

pub caused-iff : (p : Problem) (es : List Entry) → EachOnce es → IsTrue (is_caused p es) ↔ IsCaused (meaning p es)
caused-iff p es o = (
  λ h. record { cause = λ c m x w. ticket-caused p es o h c m x (has-found es c m x Waiting w) },
  caused-from p es o,
)
