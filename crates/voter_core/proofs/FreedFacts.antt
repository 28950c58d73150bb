-- Tickets for other resources than the freed one stay where they are.
use Rattle.std.proofs.Common.{◌≡◌, ◌⊎◌, inl, inr, ℕ, zero, suc, ◌+◌, ◌≤◌, Bool, true, false, not, ◌||◌, ◌&&◌, cond, nat_lt, List, [], ◌∷◌, ◌++◌, length, Option, Some, None, set, slice_get, refl, sym, ap, ◌∙◌, subst, arith}
use Rattle.std.specs.List.{AllByRecursion, list_all}
use Rattle.std.specs.Option.{option_map}
use Rattle.std.specs.Str.{bytes_eq}
use Rattle.std.proofs.lemmas.Bool.{eqb-true, and_parts, and_right}
use Rattle.std.proofs.lemmas.List.{append_assoc}
use Rattle.std.proofs.lemmas.Slice.Eq.{bytes_eq-Decides}
use Rattle.lock_messages.specs.declared.tickets.Mode.{Mode}
use Rattle.lock_messages.specs.declared.tickets.Mode.TheVariants.{Read, Write}
use Rattle.lock_model.specs.declared.entries.Entry.{Entry}
use Rattle.lock_model.specs.declared.entries.Live.{Live}
use Rattle.lock_model.specs.declared.problems.Problem.{Problem}
use Rattle.lock_model.specs.ExactStations.{is_of, knows, entry_of, EachOnce, is_waiting, is_holding, is_write, if_live, any_live, holds, writer_holds, writer_waits, admits_reader, admits, promoted, settled_live, settled_entry, settle, settled}
use Rattle.lock_model.specs.ExactDecisions.{ended_entry, ended, grant_of, told}
use Rattle.lock_model.specs.Judgement.{has_cause, is_caused}
use Rattle.lock_model.proofs.SwitchFacts.{not-both-at}
use Rattle.stable_record.specs.Lines.{is_for, waits_for, count_live, one_if}
use Rattle.stable_record.proofs.LineFacts.{count-few}
use Rattle.stable_record.proofs.IndexFacts.{nowhere}
use Rattle.voter_core.specs.Freed.{freed, is_freed, OthersStay, waiting_for}
use Rattle.voter_core.proofs.CountFacts.{count-first}
use Rattle.voter_core.proofs.EntryFacts.{set-same}
use Rattle.voter_core.proofs.EndFacts.{altered, altered-unknown, fresh, ends-nothing, ended-known, ended-unknown, known-entry}

-- ---- tests that pass no ticket for the freed resource

-- the test passes no ticket for the freed resource
abbrev PassesNone : Option (List ℕ) → (Live → Bool) → Type 0
PassesNone o test = (l : Live) → is_freed o l ≡ true → test l ≡ false

-- the two lists answer such tests alike
abbrev SameBeyond : Option (List ℕ) → List Entry → List Entry → Type 0
SameBeyond o es fs = (test : Live → Bool) → PassesNone o test → any_live test fs ≡ any_live test es

-- tickets for the one resource are not for the other
apart : (x y : List ℕ) → bytes_eq y x ≡ false → (z : List ℕ) → bytes_eq z x ≡ true → bytes_eq z y ≡ false
apart x y h z k = go (bytes_eq z y) refl
  where
    go : (b : Bool) → bytes_eq z y ≡ b → bytes_eq z y ≡ false
    go false is = is
    go true is =
        let one : z ≡ y = (bytes_eq-Decides z y).0 is in
        let clash : true ≡ false = sym k ∙ ap (λ w. bytes_eq w x) one ∙ h in
        cc

off : (o : Option (List ℕ)) (l : Live) → is_freed o l ≡ false → (m : Live) → is_freed o m ≡ true → bytes_eq m.resource l.resource ≡ false
off None l h m k = cc
off (Some x) l h m k = apart x l.resource h m.resource k

holds-none : (o : Option (List ℕ)) (l : Live) → is_freed o l ≡ false → PassesNone o (holds l.resource)
holds-none o l h m k = and_right (is_holding m.status) (bytes_eq m.resource l.resource) (off o l h m k)

writer_holds-none : (o : Option (List ℕ)) (l : Live) → is_freed o l ≡ false → PassesNone o (writer_holds l.resource)
writer_holds-none o l h m k = and_right (is_write m.mode) (holds l.resource m) (holds-none o l h m k)

writer_waits-none : (o : Option (List ℕ)) (l : Live) → is_freed o l ≡ false → PassesNone o (writer_waits l.resource)
writer_waits-none o l h m k = and_right (is_write m.mode) (is_waiting m.status && bytes_eq m.resource l.resource) (and_right (is_waiting m.status) (bytes_eq m.resource l.resource) (off o l h m k))

-- such a ticket is admitted among the one exactly where it is among the other
admits-same : (p : Problem) (o : Option (List ℕ)) (es fs : List Entry) → SameBeyond o es fs → (l : Live) → is_freed o l ≡ false → (mode : Mode) → admits p mode l.resource fs ≡ admits p mode l.resource es
admits-same p o es fs same l h Write = ap not (same (holds l.resource) (holds-none o l h))
admits-same p o es fs same l h Read =
    ap (λ b. admits_reader p b (any_live (writer_waits l.resource) fs)) (same (writer_holds l.resource) (writer_holds-none o l h))
    ∙ ap (λ b. admits_reader p (any_live (writer_holds l.resource) es) b) (same (writer_waits l.resource) (writer_waits-none o l h))

settled-as : (p : Problem) (o : Option (List ℕ)) (es fs : List Entry) → SameBeyond o es fs → (client floor : ℕ) (live : Option Live) → if_live (is_freed o) live ≡ false →
    settled_entry p fs (record { client = client; floor = floor; live = live }) ≡ settled_entry p es (record { client = client; floor = floor; live = live })
settled-as p o es fs same client floor None h = refl
settled-as p o es fs same client floor (Some l) h =
    ap (λ b. record { client = client; floor = floor; live = Some (cond (is_waiting l.status && b) (promoted l) l) }) (admits-same p o es fs same l h l.mode)

-- so an entry that stays among the one stays among the other
stays-beyond : (p : Problem) (o : Option (List ℕ)) (es fs : List Entry) → SameBeyond o es fs → (e : Entry) → (if_live (is_freed o) e.live ≡ false → settled_entry p es e ≡ e) → if_live (is_freed o) e.live ≡ false → settled_entry p fs e ≡ e
stays-beyond p o es fs same e h k = settled-as p o es fs same e.client e.floor e.live k ∙ h k

-- ---- nothing is freed: nothing settles

settle-none : (p : Problem) (front rest : List Entry) → AllByRecursion (λ e. settled_entry p (front ++ rest) e ≡ e) rest → settle p front rest ≡ rest
settle-none p front [] h = refl
settle-none p front (e ∷ rest) h =
    let seam : front ++ e ∷ rest ≡ (front ++ e ∷ []) ++ rest = sym (append_assoc front (e ∷ []) rest) in
    ap (λ f. f ∷ settle p (front ++ f ∷ []) rest) h.0
    ∙ ap (λ (l : List Entry). e ∷ l) (settle-none p (front ++ e ∷ []) rest (subst (λ whole. AllByRecursion (λ d. settled_entry p whole d ≡ d) rest) seam h.1))

not-freed : (o : Option Live) → if_live (is_freed None) o ≡ false
not-freed None = refl
not-freed (Some l) = refl

all-idle : (p : Problem) (whole rest : List Entry) → AllByRecursion (λ e. if_live (is_freed None) e.live ≡ false → settled_entry p whole e ≡ e) rest → AllByRecursion (λ e. settled_entry p whole e ≡ e) rest
all-idle p whole [] h = tt
all-idle p whole (e ∷ rest) h = (h.0 (not-freed e.live), all-idle p whole rest h.1)

pub idle-settled : (p : Problem) (es : List Entry) → OthersStay p None es → es ≡ settled p es
idle-settled p es h = sym (settle-none p [] es (all-idle p es es h))

pub told-nothing : (n client floor : ℕ) (live : Option Live) → told n (record { client = client; floor = floor; live = live }) (record { client = client; floor = floor; live = live }) ≡ []
told-nothing n client floor None = refl
told-nothing n client floor (Some l) = ap (λ b. cond b (grant_of n client (Some l)) []) (not-both-at l.status)

-- ---- one entry settles, of a ticket for the freed resource

pub all-at : (P : Entry → Type 0) (es : List Entry) (i : ℕ) (e : Entry) → AllByRecursion P es → slice_get es i ≡ Some e → P e
all-at P [] i e h at = cc
all-at P (d ∷ es) zero e h at = let is : d ≡ e = cc in subst P is h.0
all-at P (d ∷ es) (suc i) e h at = all-at P es i e h.1 at

all-weaker : {P Q : Entry → Type 0} (es : List Entry) → ((d : Entry) → P d → Q d) → AllByRecursion P es → AllByRecursion Q es
all-weaker [] f h = tt
all-weaker (d ∷ es) f h = (f d h.0, all-weaker es f h.1)

all-set : {P Q : Entry → Type 0} (es : List Entry) (i : ℕ) (f : Entry) → ((d : Entry) → P d → Q d) → Q f → AllByRecursion P es → AllByRecursion Q (set es i f)
all-set [] i f to q h = tt
all-set (d ∷ es) zero f to q h = (q, all-weaker es to h.1)
all-set (d ∷ es) (suc i) f to q h = (to d h.0, all-set es i f to q h.1)

any-set : (test : Live → Bool) (es : List Entry) (i : ℕ) (e f : Entry) → slice_get es i ≡ Some e → if_live test f.live ≡ if_live test e.live → any_live test (set es i f) ≡ any_live test es
any-set test [] i e f at same = refl
any-set test (d ∷ es) zero e f at same = let is : d ≡ e = cc in ap (λ b. b || any_live test es) (same ∙ ap (λ (x : Entry). if_live test x.live) (sym is))
any-set test (d ∷ es) (suc i) e f at same = ap (λ b. if_live test d.live || b) (any-set test es i e f at same)

passes-none : (o : Option (List ℕ)) (test : Live → Bool) → PassesNone o test → (live : Option Live) → if_live (is_freed o) live ≡ true → if_live test live ≡ false
passes-none o test h None k = refl
passes-none o test h (Some l) k = h l k

settled-for : (p : Problem) (es : List Entry) (x : List ℕ) (live : Option Live) → if_live (is_for x) (option_map (settled_live p es) live) ≡ if_live (is_for x) live
settled-for p es x None = refl
settled-for p es x (Some l) = go (is_waiting l.status && admits p l.mode l.resource es)
  where
    go : (b : Bool) → is_for x (cond b (promoted l) l) ≡ is_for x l
    go true = refl
    go false = refl

-- once the entry at a place has settled the others stay still
pub others-settled : (p : Problem) (x : List ℕ) (es : List Entry) (i : ℕ) (e : Entry) → OthersStay p (Some x) es → slice_get es i ≡ Some e → OthersStay p (Some x) (set es i (settled_entry p es e))
others-settled p x es i e others at = go (if_live (is_for x) e.live) refl
  where
    f : Entry
    f = settled_entry p es e

    go : (b : Bool) → if_live (is_for x) e.live ≡ b → OthersStay p (Some x) (set es i (settled_entry p es e))
    go false is =
        let idle : settled_entry p es e ≡ e = all-at (λ d. if_live (is_freed (Some x)) d.live ≡ false → settled_entry p es d ≡ d) es i e others at is in
        subst (OthersStay p (Some x)) (sym (ap (set es i) idle ∙ set-same es i e at)) others
    go true is =
        let after : if_live (is_for x) (settled_entry p es e).live ≡ true = settled-for p es x e.live ∙ is in
        let new : List Entry = set es i (settled_entry p es e) in
        let same : SameBeyond (Some x) es new = λ test none.
        any-set test es i e (settled_entry p es e) at (passes-none (Some x) test none (settled_entry p es e).live after ∙ sym (passes-none (Some x) test none e.live is)) in
        all-set es i (settled_entry p es e) (stays-beyond p (Some x) es new same) (λ k. let clash : true ≡ false = sym after ∙ k in cc) others

-- ---- attempts end, or one is softened, and at most one ticket with them

-- one ticket for the freed resource ends or is softened: it waits no more
pub record Sheds (o : Option (List ℕ)) (e f : Entry) : Type 0 where
  pub new : if_live (λ l. not (is_freed o l)) f.live ≡ false
  pub old : if_live (λ l. not (is_freed o l)) e.live ≡ false
  pub still : if_live (λ l. is_waiting l.status) f.live ≡ false

-- an entry that stays, or whose ticket does so
abbrev pub StaysOrSheds : Option (List ℕ) → Entry → Entry → Type 0
StaysOrSheds o e f = (f ≡ e) ⊎ Sheds o e f

-- entries of which each stays or sheds, and perhaps new ones without tickets
abbrev pub AllShed : Option (List ℕ) → List Entry → List Entry → Type 0
AllShed o [] [] = Unit {0}
AllShed o [] (f ∷ fs) = (f.live ≡ None) × AllShed o [] fs
AllShed o (e ∷ es) [] = ⊥
AllShed o (e ∷ es) (f ∷ fs) = StaysOrSheds o e f × AllShed o es fs

within : (o : Option (List ℕ)) (test : Live → Bool) → PassesNone o test → (live : Option Live) → if_live (λ l. not (is_freed o l)) live ≡ false → if_live test live ≡ false
within o test h None k = refl
within o test h (Some l) k = h l (go (is_freed o l) k)
  where
    go : (b : Bool) → not b ≡ false → b ≡ true
    go true q = refl
    go false q = cc

sheds-same : (o : Option (List ℕ)) (es fs : List Entry) → AllShed o es fs → SameBeyond o es fs
sheds-same o [] [] h test none = refl
sheds-same o [] (f ∷ fs) h test none = ap (λ l. if_live test l || any_live test fs) h.0 ∙ sheds-same o [] fs h.1 test none
sheds-same o (e ∷ es) [] h test none = absurd h
sheds-same o (e ∷ es) (f ∷ fs) h test none = ap (λ b. b || any_live test fs) (go h.0) ∙ ap (λ b. if_live test e.live || b) (sheds-same o es fs h.1 test none)
  where
    go : StaysOrSheds o e f → if_live test f.live ≡ if_live test e.live
    go (inl is) = ap (λ (x : Entry). if_live test x.live) is
    go (inr k) = within o test none f.live k.new ∙ sym (within o test none e.live k.old)

idle-still : (p : Problem) (es : List Entry) (client floor : ℕ) (live : Option Live) → if_live (λ l. is_waiting l.status) live ≡ false →
    settled_entry p es (record { client = client; floor = floor; live = live }) ≡ record { client = client; floor = floor; live = live }
idle-still p es client floor None h = refl
idle-still p es client floor (Some l) h = ap (λ b. record { client = client; floor = floor; live = Some (cond (b && admits p l.mode l.resource es) (promoted l) l) }) h

sheds-all : (p : Problem) (o : Option (List ℕ)) (old new : List Entry) → SameBeyond o old new → (es fs : List Entry) → AllShed o es fs →
    AllByRecursion (λ e. if_live (is_freed o) e.live ≡ false → settled_entry p old e ≡ e) es → AllByRecursion (λ e. if_live (is_freed o) e.live ≡ false → settled_entry p new e ≡ e) fs
sheds-all p o old new same [] [] h all = tt
sheds-all p o old new same [] (f ∷ fs) h all = (λ _. idle-still p new f.client f.floor f.live (ap (if_live (λ l. is_waiting l.status)) h.0), sheds-all p o old new same [] fs h.1 tt)
sheds-all p o old new same (e ∷ es) [] h all = absurd h
sheds-all p o old new same (e ∷ es) (f ∷ fs) h all = (go h.0, sheds-all p o old new same es fs h.1 all.1)
  where
    go : StaysOrSheds o e f → if_live (is_freed o) f.live ≡ false → settled_entry p new f ≡ f
    go (inl is) = subst (λ (x : Entry). if_live (is_freed o) x.live ≡ false → settled_entry p new x ≡ x) (sym is) (stays-beyond p o old new same e all.0)
    go (inr k) = λ _. idle-still p new f.client f.floor f.live k.still

pub sheds-none : (o : Option (List ℕ)) (es : List Entry) → AllShed o es es
sheds-none o [] = tt
sheds-none o (e ∷ es) = (inl refl, sheds-none o es)

sheds-last : (o : Option (List ℕ)) (es : List Entry) (f : Entry) → f.live ≡ None → AllShed o es (es ++ f ∷ [])
sheds-last o [] f h = (h, tt)
sheds-last o (e ∷ es) f h = (inl refl, sheds-last o es f h)

-- where a client's entry is altered, and stays or sheds, all do
pub sheds-altered : (o : Option (List ℕ)) (c : ℕ) (f : Entry → Entry) (es : List Entry) (e : Entry) → EachOnce es → entry_of es c ≡ Some e → StaysOrSheds o e (f e) → AllShed o es (altered c f es)
sheds-altered o c f [] e once h is = tt
sheds-altered o c f (d ∷ es) e once h is = go (λ k. sheds-altered o c f es e once.1 k is) (is_of c d) refl
  where
    go : (entry_of es c ≡ Some e → AllShed o es (altered c f es)) → (b : Bool) → is_of c d ≡ b → AllShed o (d ∷ es) (altered c f (d ∷ es))
    go more true here =
        let z : Some d ≡ Some e = sym (ap (λ b. cond b (Some d) (entry_of es c)) here) ∙ h in
        let same : e ≡ d = cc in
        let none : knows c es ≡ false = ap (λ k. knows k es) (sym (eqb-true d.client c here)) ∙ once.0 in
        let own : StaysOrSheds o d (f d) = subst (λ x. StaysOrSheds o x (f x)) same is in
        (subst (StaysOrSheds o d) (sym (ap (λ b. cond b (f d) d) here)) own, subst (AllShed o es) (sym (altered-unknown c f es none)) (sheds-none o es))
    go more false here =
        (inl (ap (λ b. cond b (f d) d) here), more (sym (ap (λ b. cond b (Some d) (entry_of es c)) here) ∙ h))

own-freed : (live : Option Live) → if_live (λ l. not (is_freed (option_map (λ m. m.resource) live) l)) live ≡ false
own-freed None = refl
own-freed (Some l) = ap not ((bytes_eq-Decides l.resource l.resource).1 refl)

-- ending sheds the ticket that ends
sheds-ended : (c a : ℕ) (es : List Entry) → EachOnce es → AllShed (freed a (entry_of es c)) es (ended c a es)
sheds-ended c a es once = go (entry_of es c) refl
  where
    by : (e : Entry) → entry_of es c ≡ Some e → (b : Bool) → nat_lt e.floor a ≡ b → AllShed (cond b (option_map (λ l. l.resource) e.live) None) es (ended c a es)
    by e is true low =
        let o = option_map (λ l. l.resource) e.live in
        let gone : ended_entry a e ≡ record { client = e.client; floor = a; live = None } = ap (λ b. cond b (record { client = e.client; floor = a; live = None }) e) low in
        let sheds : StaysOrSheds o e (ended_entry a e) = subst (StaysOrSheds o e) (sym gone) (inr (record { new = refl; old = own-freed e.live; still = refl })) in
        subst (AllShed o es) (sym (ended-known c a es (known-entry c es e is).0)) (sheds-altered o c (ended_entry a) es e once is sheds)
    by e is false low =
        subst (AllShed None es) (sym (ended-known c a es (known-entry c es e is).0 ∙ ends-nothing c a es e once is low)) (sheds-none None es)

    go : (o : Option Entry) → entry_of es c ≡ o → AllShed (freed a o) es (ended c a es)
    go None is = subst (AllShed None es) (sym (ended-unknown c a es (nowhere c es is))) (sheds-last None es (fresh c a) refl)
    go (Some e) is = by e is (nat_lt e.floor a) refl

-- where each ticket that waits has a cause, none settles
idle-cause : (p : Problem) (es : List Entry) (client floor : ℕ) (live : Option Live) → has_cause p es live ≡ true → settled_entry p es (record { client = client; floor = floor; live = live }) ≡ record { client = client; floor = floor; live = live }
idle-cause p es client floor None h = refl
idle-cause p es client floor (Some l) h =
    ap (λ b. record { client = client; floor = floor; live = Some (cond b (promoted l) l) }) (go (is_waiting l.status) (admits p l.mode l.resource es) h)
  where
    go : (w a : Bool) → (not w || not a) ≡ true → (w && a) ≡ false
    go true true k = cc
    go true false k = refl
    go false a k = refl

caused-all : (p : Problem) (o : Option (List ℕ)) (whole es : List Entry) → list_all (λ e. has_cause p whole e.live) es ≡ true → AllByRecursion (λ e. if_live (is_freed o) e.live ≡ false → settled_entry p whole e ≡ e) es
caused-all p o whole [] h = tt
caused-all p o whole (e ∷ es) h =
    let k = and_parts (has_cause p whole e.live) (list_all (λ (d : Entry). has_cause p whole d.live) es) h in
    (λ _. idle-cause p whole e.client e.floor e.live k.0, caused-all p o whole es k.1)

-- so no ticket but those for the freed resource would settle
pub sheds-others : (p : Problem) (o : Option (List ℕ)) (es fs : List Entry) → AllShed o es fs → is_caused p es ≡ true → OthersStay p o fs
sheds-others p o es fs sheds caused = sheds-all p o es fs (sheds-same o es fs sheds) es fs sheds (caused-all p o es es caused)

-- where each ticket that waits has a cause, settling changes nothing
pub caused-settled : (p : Problem) (es : List Entry) → is_caused p es ≡ true → es ≡ settled p es
caused-settled p es caused = idle-settled p es (caused-all p None es es caused)

pub none-freed : (o : Option (List ℕ)) → ((x : List ℕ) → o ≡ Some x → ⊥) → o ≡ None
none-freed None h = refl
none-freed (Some x) h = absurd (h x refl)

-- it is so once a client's attempts have ended
pub others-freed : (p : Problem) (c a : ℕ) (es : List Entry) (o : Option (List ℕ)) (new : List Entry) → EachOnce es → is_caused p es ≡ true → o ≡ freed a (entry_of es c) → new ≡ ended c a es → OthersStay p o new
others-freed p c a es o new once caused is made =
    subst (λ l. OthersStay p o l) (sym made) (subst (λ f. OthersStay p f (ended c a es)) (sym is) (sheds-others p (freed a (entry_of es c)) es (ended c a es) (sheds-ended c a es once) caused))

-- ---- who is told a Grant waits for the freed resource

waits-still : (x : List ℕ) (live : Option Live) → if_live (λ l. is_waiting l.status) live ≡ false → if_live (waits_for x) live ≡ false
waits-still x None h = refl
waits-still x (Some l) h = ap (λ b. b && bytes_eq l.resource x) h

fewer : (o : Option (List ℕ)) (x : List ℕ) (es fs : List Entry) → AllShed o es fs → count_live (waits_for x) fs ≤ count_live (waits_for x) es
fewer o x [] [] h = omega arith
fewer o x [] (f ∷ fs) h =
    let none : count_live (waits_for x) (f ∷ fs) ≡ one_if false + count_live (waits_for x) fs = count-first (waits_for x) f fs ∙ ap (λ l. one_if (if_live (waits_for x) l) + count_live (waits_for x) fs) h.0 in
    let rest : count_live (waits_for x) fs ≤ count_live (waits_for x) [] = fewer o x [] fs h.1 in
    omega (arith, none, rest)
fewer o x (e ∷ es) [] h = absurd h
fewer o x (e ∷ es) (f ∷ fs) h = go (fewer o x es fs h.1) h.0
  where
    some : (b : Bool) → 0 ≤ one_if b
    some b = omega arith

    go : count_live (waits_for x) fs ≤ count_live (waits_for x) es → StaysOrSheds o e f → count_live (waits_for x) (f ∷ fs) ≤ count_live (waits_for x) (e ∷ es)
    go rest (inl is) =
        let new : count_live (waits_for x) (f ∷ fs) ≡ one_if (if_live (waits_for x) e.live) + count_live (waits_for x) fs = count-first (waits_for x) f fs ∙ ap (λ (d : Entry). one_if (if_live (waits_for x) d.live) + count_live (waits_for x) fs) is in
        let old : count_live (waits_for x) (e ∷ es) ≡ one_if (if_live (waits_for x) e.live) + count_live (waits_for x) es = count-first (waits_for x) e es in
        omega (arith, new, old, rest)
    go rest (inr k) =
        let new : count_live (waits_for x) (f ∷ fs) ≡ one_if false + count_live (waits_for x) fs = count-first (waits_for x) f fs ∙ ap (λ b. one_if b + count_live (waits_for x) fs) (waits-still x f.live k.still) in
        let old : count_live (waits_for x) (e ∷ es) ≡ one_if (if_live (waits_for x) e.live) + count_live (waits_for x) es = count-first (waits_for x) e es in
        omega (arith, new, old, rest, some (if_live (waits_for x) e.live))

pub fewer-waiting : (o : Option (List ℕ)) (es fs : List Entry) → AllShed o es fs → waiting_for o fs ≤ waiting_for o es
fewer-waiting None es fs h = omega arith
fewer-waiting (Some x) es fs h = fewer (Some x) x es fs h

-- once the attempts have ended no more wait for the freed resource than before
pub waiting-ended : (c a : ℕ) (es : List Entry) (o : Option (List ℕ)) (new : List Entry) → EachOnce es → o ≡ freed a (entry_of es c) → new ≡ ended c a es → waiting_for o new ≤ waiting_for (freed a (entry_of es c)) es
waiting-ended c a es o new once is made =
    subst (λ l. waiting_for o l ≤ waiting_for (freed a (entry_of es c)) es) (sym made)
    (subst (λ f. waiting_for f (ended c a es) ≤ waiting_for (freed a (entry_of es c)) es) (sym is) (fewer-waiting (freed a (entry_of es c)) es (ended c a es) (sheds-ended c a es once)))

pub waiting-few : (o : Option (List ℕ)) (es : List Entry) → waiting_for o es ≤ length es
waiting-few None es = omega arith
waiting-few (Some x) es = count-few (waits_for x) es
