-- The one set of clients that settling makes holders.
use Rattle.std.proofs.Common.{◌≡◌, ℕ, ◌==◌, ◌⊎◌, Bool, true, false, ◌&&◌, cond, List, [], ◌∷◌, ◌++◌, Option, Some, None, refl, sym, ◌∙◌, ap, subst, inl, inr}
use Rattle.std.specs.Option.{option_map}
use Rattle.std.proofs.lemmas.Bool.{cases_Bool, and_parts}
use Rattle.std.proofs.lemmas.List.{append_assoc, append-nil, map-append}
use Rattle.lock_model.specs.declared.entries.Entry.{Entry}
use Rattle.lock_model.specs.declared.entries.Live.{Live}
use Rattle.lock_model.specs.declared.entries.Status.{Status}
use Rattle.lock_model.specs.declared.entries.Status.TheVariants.{Waiting, Holding, Softened}
use Rattle.lock_model.specs.declared.problems.Problem.{Problem}
use Rattle.lock_model.specs.Decisions.{Among}
use Rattle.lock_model.specs.ExactStations.{is_of, entry_of, EachOnce, is_waiting, is_holding, if_live, admits, promoted, settled_live, settled_entry, settle, settled, with_choice, with_holders, IsSettling, waits_in, holds_in, new_holders}
use Rattle.lock_model.proofs.EntryFacts.{once-middle, once-same, entry_of-here, entry_of-found, entry_of-among}
use Rattle.lock_model.proofs.SettlingFacts.{waiting-true}

-- an entry whose ticket waits, and one whose ticket doesn't

pub holding-waits : (s : Status) → is_waiting s ≡ false → is_holding s ≡ true
holding-waits Waiting h = cc
holding-waits Holding h = refl
holding-waits Softened h = refl

-- where an entry's ticket waits, its choice is what is admitted
record WaitsWith (e : Entry) (l : Live) : Type 0 where
  pub live : e.live ≡ Some l
  pub waiting : l.status ≡ Waiting

chosen-entry : (e : Entry) (l : Live) → WaitsWith e l → (p : Problem) (es : List Entry) (chosen : ℕ → Bool) → chosen e.client ≡ admits p l.mode l.resource es → with_choice chosen e ≡ settled_entry p es e
chosen-entry e l w p es chosen h =
    ap (λ b. cond b (record { client = e.client; floor = e.floor; live = option_map promoted e.live }) e) h
    ∙ go (admits p l.mode l.resource es) refl
    ∙ sym (ap (λ k. record { client = e.client; floor = e.floor; live = option_map (settled_live p es) k }) w.live)
  where
    go : (b : Bool) → admits p l.mode l.resource es ≡ b → cond b (record { client = e.client; floor = e.floor; live = option_map promoted e.live }) e ≡ record { client = e.client; floor = e.floor; live = Some (settled_live p es l) }
    go true k =
        ap (λ o. record { client = e.client; floor = e.floor; live = option_map promoted o }) w.live
        ∙ ap (λ s. record { client = e.client; floor = e.floor; live = Some (cond s (promoted l) l) }) (sym (ap (λ s. is_waiting s && admits p l.mode l.resource es) w.waiting ∙ k))
    go false k =
        ap (λ o. record { client = e.client; floor = e.floor; live = o }) w.live
        ∙ ap (λ s. record { client = e.client; floor = e.floor; live = Some (cond s (promoted l) l) }) (sym (ap (λ s. is_waiting s && admits p l.mode l.resource es) w.waiting ∙ k))

-- an entry whose ticket doesn't wait stays
still-live : (o : Option Live) → if_live (λ l. is_waiting l.status) o ≡ false → (p : Problem) (es : List Entry) → option_map (settled_live p es) o ≡ o
still-live None h p es = refl
still-live (Some l) h p es = ap (λ b. Some (cond (b && admits p l.mode l.resource es) (promoted l) l)) h

still-entry : (e : Entry) → if_live (λ l. is_waiting l.status) e.live ≡ false → (p : Problem) (es : List Entry) → settled_entry p es e ≡ e
still-entry e h p es = ap (λ o. record { client = e.client; floor = e.floor; live = o }) (still-live e.live h p es)

unchosen-entry : (e : Entry) (chosen : ℕ → Bool) → chosen e.client ≡ false → with_choice chosen e ≡ e
unchosen-entry e chosen h = ap (λ b. cond b (record { client = e.client; floor = e.floor; live = option_map promoted e.live }) e) h

waits-with : (e : Entry) (o : Option Live) → e.live ≡ o → if_live (λ l. is_waiting l.status) e.live ≡ true → (l : Live) × WaitsWith e l
waits-with e None k h = absurd (let z : false ≡ true = sym (ap (if_live (λ l. is_waiting l.status)) k) ∙ h in cc)
waits-with e (Some l) k h = (l, record { live = k; waiting = waiting-true l.status (sym (ap (if_live (λ l. is_waiting l.status)) k) ∙ h) })

waits-with-true : (e : Entry) (l : Live) → WaitsWith e l → if_live (λ l. is_waiting l.status) e.live ≡ true
waits-with-true e l w = ap (if_live (λ l. is_waiting l.status)) w.live ∙ ap is_waiting w.waiting

-- settling keeps each client once
pub settle-once : (p : Problem) (front rest : List Entry) → EachOnce (front ++ rest) → EachOnce (front ++ settle p front rest)
settle-once p front [] o = o
settle-once p front (e ∷ rest) o =
    let f = settled_entry p (front ++ e ∷ rest) e in
    subst EachOnce (append_assoc front (f ∷ []) (settle p (front ++ f ∷ []) rest))
    (settle-once p (front ++ f ∷ []) rest (subst EachOnce (sym (append_assoc front (f ∷ []) rest)) (once-same front e f rest refl o)))

-- the lists so far: done has settled to front
holders-more : (chosen : ℕ → Bool) (done front : List Entry) (e f : Entry) → with_holders chosen done ≡ front → with_choice chosen e ≡ f → with_holders chosen (done ++ e ∷ []) ≡ front ++ f ∷ []
holders-more chosen done front e f h k = map-append (with_choice chosen) done (e ∷ []) ∙ ap (λ xs. xs ++ with_choice chosen e ∷ []) h ∙ ap (λ g. front ++ g ∷ []) k

-- a set that is as it must be gives what settling gives
record Agrees (p : Problem) (all : List Entry) (chosen : ℕ → Bool) : Type 0 where
  pub waiting : (done rest : List Entry) (e : Entry) (l : Live) → all ≡ done ++ e ∷ rest → WaitsWith e l → chosen e.client ≡ admits p l.mode l.resource (with_holders chosen done ++ e ∷ rest)
  pub others : (done rest : List Entry) (e : Entry) → all ≡ done ++ e ∷ rest → if_live (λ l. is_waiting l.status) e.live ≡ false → chosen e.client ≡ false

agrees-entry : (p : Problem) (all : List Entry) (chosen : ℕ → Bool) → Agrees p all chosen → (done rest : List Entry) (e : Entry) → all ≡ done ++ e ∷ rest →
    with_choice chosen e ≡ settled_entry p (with_holders chosen done ++ e ∷ rest) e
agrees-entry p all chosen a done rest e s = go (cases_Bool (if_live (λ l. is_waiting l.status) e.live))
  where
    go : (if_live (λ l. is_waiting l.status) e.live ≡ true) ⊎ (if_live (λ l. is_waiting l.status) e.live ≡ false) → with_choice chosen e ≡ settled_entry p (with_holders chosen done ++ e ∷ rest) e
    go (inl t) =
        let w = waits-with e e.live refl t in
        chosen-entry e w.0 w.1 p (with_holders chosen done ++ e ∷ rest) chosen (a.waiting done rest e w.0 s w.1)
    go (inr f) = unchosen-entry e chosen (a.others done rest e s f) ∙ sym (still-entry e f p (with_holders chosen done ++ e ∷ rest))

agrees-rest : (p : Problem) (all : List Entry) (chosen : ℕ → Bool) → Agrees p all chosen → (done rest : List Entry) → all ≡ done ++ rest →
    with_holders chosen rest ≡ settle p (with_holders chosen done) rest
agrees-rest p all chosen a done [] s = refl
agrees-rest p all chosen a done (e ∷ rest) s =
    let front = with_holders chosen done in
    let f = settled_entry p (front ++ e ∷ rest) e in
    let here : with_choice chosen e ≡ f = agrees-entry p all chosen a done rest e s in
    let more : with_holders chosen (done ++ e ∷ []) ≡ front ++ f ∷ [] = holders-more chosen done front e f refl here in
    let ih = agrees-rest p all chosen a (done ++ e ∷ []) rest (s ∙ sym (append_assoc done (e ∷ []) rest)) in
    ap (λ g. g ∷ with_holders chosen rest) here ∙ ap (λ xs. f ∷ xs) (ih ∙ ap (λ xs. settle p xs rest) more)

-- where an entry stands in a list
among-split : (es : List Entry) (e : Entry) → Among e es → (done rest : List Entry) × (es ≡ done ++ e ∷ rest)
among-split [] e m = absurd m
among-split (x ∷ es) e (inl s) = ([], es, ap (λ y. y ∷ es) (sym s))
among-split (x ∷ es) e (inr m) = let r = among-split es e m in (x ∷ r.0, r.1, ap (λ ys. x ∷ ys) r.2)

settling-agrees : (p : Problem) (es : List Entry) (chosen : ℕ → Bool) → EachOnce es → IsSettling p es chosen → Agrees p es chosen
settling-agrees p es chosen o s = record {
  waiting = λ done rest e l k w. s.exact done rest e l k w.live w.waiting;
  others = λ done rest e k still. go done rest e k still (cases_Bool (chosen e.client));
}
  where
    go : (done rest : List Entry) (e : Entry) → es ≡ done ++ e ∷ rest → if_live (λ l. is_waiting l.status) e.live ≡ false → (chosen e.client ≡ true) ⊎ (chosen e.client ≡ false) → chosen e.client ≡ false
    go done rest e k still (inr f) = f
    go done rest e k still (inl t) =
        let w = s.waits e.client t in
        let found : entry_of es (w.0).client ≡ Some w.0 = entry_of-among es w.0 o w.2 in
        let here : entry_of es e.client ≡ Some e = ap (λ xs. entry_of xs e.client) k ∙ entry_of-here done e rest (once-middle done e rest (subst EachOnce k o)) in
        let same : Some w.0 ≡ Some e = sym found ∙ ap (entry_of es) w.3 ∙ here in
        let one : w.0 ≡ e = cc in
        absurd (let z : false ≡ true = sym still ∙ ap (λ (f : Entry). if_live (λ l. is_waiting l.status) f.live) (sym one) ∙ waits-with-true w.0 w.1 (record { live = w.4; waiting = w.5 }) in cc)

-- what a choice leaves at a client
entry_of-holders : (chosen : ℕ → Bool) (es : List Entry) (c : ℕ) → entry_of (with_holders chosen es) c ≡ option_map (with_choice chosen) (entry_of es c)
entry_of-holders chosen [] c = refl
entry_of-holders chosen (e ∷ es) c =
    ap (λ n. cond (n == c) (Some (with_choice chosen e)) (entry_of (with_holders chosen es) c)) (client (chosen e.client))
    ∙ ap (λ o. cond (is_of c e) (Some (with_choice chosen e)) o) (entry_of-holders chosen es c) ∙ both (is_of c e)
  where
    client : (b : Bool) → (cond b (record { client = e.client; floor = e.floor; live = option_map promoted e.live }) e).client ≡ e.client
    client true = refl
    client false = refl

    both : (b : Bool) → cond b (Some (with_choice chosen e)) (option_map (with_choice chosen) (entry_of es c)) ≡ option_map (with_choice chosen) (cond b (Some e) (entry_of es c))
    both true = refl
    both false = refl

choice-holds : (e : Entry) (l : Live) (chosen : ℕ → Bool) → WaitsWith e l → holds_in (Some (with_choice chosen e)) ≡ chosen e.client
choice-holds e l chosen w = go (chosen e.client) refl
  where
    go : (b : Bool) → chosen e.client ≡ b → holds_in (Some (cond b (record { client = e.client; floor = e.floor; live = option_map promoted e.live }) e)) ≡ b
    go true h = ap (λ o. if_live (λ l. is_holding l.status) (option_map promoted o)) w.live
    go false h = ap (if_live (λ l. is_holding l.status)) w.live ∙ ap is_holding w.waiting

-- a set that is as it must be is the set of those that waited and hold
pub settling-is : (p : Problem) (es : List Entry) (chosen : ℕ → Bool) → EachOnce es → IsSettling p es chosen → (c : ℕ) → chosen c ≡ new_holders es (settled p es) c
settling-is p es chosen o s c = go (entry_of es c) refl
  where
    left : settled p es ≡ with_holders chosen es
    left = sym (agrees-rest p es chosen (settling-agrees p es chosen o s) [] es refl)

    not-chosen : entry_of es c ≡ None → chosen c ≡ false
    not-chosen n = absent (cases_Bool (chosen c))
      where
        absent : (chosen c ≡ true) ⊎ (chosen c ≡ false) → chosen c ≡ false
        absent (inr f) = f
        absent (inl t) =
            let w = s.waits c t in
            absurd (let z : Some w.0 ≡ None = sym (entry_of-among es w.0 o w.2) ∙ ap (entry_of es) w.3 ∙ n in cc)

    here : (e : Entry) → entry_of es c ≡ Some e → (if_live (λ l. is_waiting l.status) e.live ≡ true) ⊎ (if_live (λ l. is_waiting l.status) e.live ≡ false) → chosen c ≡ new_holders es (settled p es) c
    here e k (inl t) =
        let w = waits-with e e.live refl t in
        let mine : e.client ≡ c = (entry_of-found es c e k).1 in
        let after : entry_of (settled p es) c ≡ Some (with_choice chosen e) = ap (λ xs. entry_of xs c) left ∙ entry_of-holders chosen es c ∙ ap (option_map (with_choice chosen)) k in
        sym (ap (λ b. b && holds_in (entry_of (settled p es) c)) (ap waits_in k ∙ t) ∙ ap holds_in after ∙ choice-holds e w.0 chosen w.1 ∙ ap chosen mine)
    here e k (inr f) =
        let mine : e.client ≡ c = (entry_of-found es c e k).1 in
        let split = among-split es e (entry_of-found es c e k).0 in
        sym (ap chosen mine) ∙ (settling-agrees p es chosen o s).others split.0 split.1 e split.2 f ∙ sym (ap (λ b. b && holds_in (entry_of (settled p es) c)) (ap waits_in k ∙ f))

    go : (found : Option Entry) → entry_of es c ≡ found → chosen c ≡ new_holders es (settled p es) c
    go None n = not-chosen n ∙ sym (ap (λ o. waits_in o && holds_in (entry_of (settled p es) c)) n)
    go (Some e) k = here e k (cases_Bool (if_live (λ l. is_waiting l.status) e.live))

pub settling-unique : (p : Problem) (es : List Entry) (chosen others : ℕ → Bool) → EachOnce es → IsSettling p es chosen → IsSettling p es others → (c : ℕ) → chosen c ≡ others c
settling-unique p es chosen others o s t c = settling-is p es chosen o s c ∙ sym (settling-is p es others o t c)

-- what settling made of an entry, where it is found
turn-holds : (p : Problem) (es : List Entry) (e : Entry) (l : Live) → WaitsWith e l → holds_in (Some (settled_entry p es e)) ≡ admits p l.mode l.resource es
turn-holds p es e l w =
    ap (λ o. if_live (λ l. is_holding l.status) (option_map (settled_live p es) o)) w.live
    ∙ ap (λ s. is_holding (cond (s && admits p l.mode l.resource es) (promoted l) l).status) (ap is_waiting w.waiting)
    ∙ go (admits p l.mode l.resource es)
  where
    go : (b : Bool) → is_holding (cond b (promoted l) l).status ≡ b
    go true = refl
    go false = ap is_holding w.waiting

-- settling so far: done has become front, and the rest becomes what settling makes of it
record SoFar (p : Problem) (all final done rest front : List Entry) (chosen : ℕ → Bool) : Type 0 where
  pub before : all ≡ done ++ rest
  pub after : final ≡ front ++ settle p front rest
  pub once_before : EachOnce all
  pub once_after : EachOnce final
  pub made : with_holders chosen done ≡ front
  pub set : (c : ℕ) → chosen c ≡ new_holders all final c

so-far-chosen : (p : Problem) (all final done : List Entry) (e : Entry) (rest front : List Entry) (chosen : ℕ → Bool) → SoFar p all final done (e ∷ rest) front chosen →
    chosen e.client ≡ (waits_in (Some e) && holds_in (Some (settled_entry p (front ++ e ∷ rest) e)))
so-far-chosen p all final done e rest front chosen s =
    let f = settled_entry p (front ++ e ∷ rest) e in
    let behind = settle p (front ++ f ∷ []) rest in
    let was : entry_of all e.client ≡ Some e = ap (λ xs. entry_of xs e.client) s.before ∙ entry_of-here done e rest (once-middle done e rest (subst EachOnce s.before s.once_before)) in
    let is : entry_of final e.client ≡ Some f = ap (λ xs. entry_of xs e.client) s.after ∙ entry_of-here front f behind (once-middle front f behind (subst EachOnce s.after s.once_after)) in
    s.set e.client ∙ ap (λ o. waits_in o && holds_in (entry_of final e.client)) was ∙ ap (λ o. waits_in (Some e) && holds_in o) is

so-far-waiting : (p : Problem) (all final done : List Entry) (e : Entry) (rest front : List Entry) (chosen : ℕ → Bool) → SoFar p all final done (e ∷ rest) front chosen →
    (l : Live) → WaitsWith e l → chosen e.client ≡ admits p l.mode l.resource (front ++ e ∷ rest)
so-far-waiting p all final done e rest front chosen s l w =
    so-far-chosen p all final done e rest front chosen s
    ∙ ap (λ b. b && holds_in (Some (settled_entry p (front ++ e ∷ rest) e))) (waits-with-true e l w) ∙ turn-holds p (front ++ e ∷ rest) e l w

so-far-entry : (p : Problem) (all final done : List Entry) (e : Entry) (rest front : List Entry) (chosen : ℕ → Bool) → SoFar p all final done (e ∷ rest) front chosen →
    with_choice chosen e ≡ settled_entry p (front ++ e ∷ rest) e
so-far-entry p all final done e rest front chosen s = go (cases_Bool (if_live (λ l. is_waiting l.status) e.live))
  where
    go : (if_live (λ l. is_waiting l.status) e.live ≡ true) ⊎ (if_live (λ l. is_waiting l.status) e.live ≡ false) → with_choice chosen e ≡ settled_entry p (front ++ e ∷ rest) e
    go (inl t) = let w = waits-with e e.live refl t in chosen-entry e w.0 w.1 p (front ++ e ∷ rest) chosen (so-far-waiting p all final done e rest front chosen s w.0 w.1)
    go (inr f) =
        unchosen-entry e chosen (so-far-chosen p all final done e rest front chosen s ∙ ap (λ b. b && holds_in (Some (settled_entry p (front ++ e ∷ rest) e))) f)
        ∙ sym (still-entry e f p (front ++ e ∷ rest))

so-far-more : (p : Problem) (all final done : List Entry) (e : Entry) (rest front : List Entry) (chosen : ℕ → Bool) → SoFar p all final done (e ∷ rest) front chosen →
    SoFar p all final (done ++ e ∷ []) rest (front ++ settled_entry p (front ++ e ∷ rest) e ∷ []) chosen
so-far-more p all final done e rest front chosen s =
    let f = settled_entry p (front ++ e ∷ rest) e in
    record {
      before = s.before ∙ sym (append_assoc done (e ∷ []) rest);
      after = s.after ∙ sym (append_assoc front (f ∷ []) (settle p (front ++ f ∷ []) rest));
      once_before = s.once_before;
      once_after = s.once_after;
      made = holders-more chosen done front e f s.made (so-far-entry p all final done e rest front chosen s);
      set = s.set;
    }

-- each waiting ticket stands where it is admitted
so-far-exact : (p : Problem) (all final done rest front : List Entry) (chosen : ℕ → Bool) → SoFar p all final done rest front chosen →
    (first behind : List Entry) (e : Entry) (l : Live) → rest ≡ first ++ e ∷ behind → WaitsWith e l → chosen e.client ≡ admits p l.mode l.resource (with_holders chosen (done ++ first) ++ e ∷ behind)
so-far-exact p all final done [] front chosen s [] behind e l k w = cc
so-far-exact p all final done [] front chosen s (x ∷ first) behind e l k w = cc
so-far-exact p all final done (d ∷ rest) front chosen s [] behind e l k w =
    let head : d ≡ e = cc in
    let tail : rest ≡ behind = cc in
    let at_head : WaitsWith d l = subst (λ g. WaitsWith g l) (sym head) w in
    let front_is : front ≡ with_holders chosen (done ++ []) = sym s.made ∙ ap (with_holders chosen) (sym (append-nil done)) in
    ap (λ (g : Entry). chosen g.client) (sym head) ∙ so-far-waiting p all final done d rest front chosen s l at_head
    ∙ ap (λ xs. admits p l.mode l.resource (xs ++ d ∷ rest)) front_is ∙ ap (λ xs. admits p l.mode l.resource (with_holders chosen (done ++ []) ++ xs)) k
so-far-exact p all final done (d ∷ rest) front chosen s (x ∷ first) behind e l k w =
    let head : d ≡ x = cc in
    let tail : rest ≡ first ++ e ∷ behind = cc in
    so-far-exact p all final (done ++ d ∷ []) rest (front ++ settled_entry p (front ++ d ∷ rest) d ∷ []) chosen (so-far-more p all final done d rest front chosen s) first behind e l tail w
    ∙ ap (λ xs. admits p l.mode l.resource (with_holders chosen xs ++ e ∷ behind)) (append_assoc done (d ∷ []) first ∙ ap (λ g. done ++ g ∷ first) head)

so-far-start : (p : Problem) (es : List Entry) → EachOnce es → SoFar p es (settled p es) [] es [] (new_holders es (settled p es))
so-far-start p es o = record { before = refl; after = refl; once_before = o; once_after = settle-once p [] es o; made = refl; set = λ c. refl }

pub settling-exact : (p : Problem) (es : List Entry) → EachOnce es → IsSettling p es (new_holders es (settled p es))
settling-exact p es o = record {
  waits = λ c h. go c (entry_of es c) refl (and_parts (waits_in (entry_of es c)) (holds_in (entry_of (settled p es) c)) h).0;
  exact = λ before after e l k s t. so-far-exact p es (settled p es) [] es [] (new_holders es (settled p es)) (so-far-start p es o) before after e l k (record { live = s; waiting = t });
}
  where
    go : (c : ℕ) (o : Option Entry) → entry_of es c ≡ o → waits_in (entry_of es c) ≡ true → (e : Entry) × (l : Live) × Among e es × (e.client ≡ c) × (e.live ≡ Some l) × (l.status ≡ Waiting)
    go c None k h = absurd (let z : false ≡ true = sym (ap waits_in k) ∙ h in cc)
    go c (Some e) k h =
        let w = waits-with e e.live refl (sym (ap waits_in k) ∙ h) in
        let f = entry_of-found es c e k in
        (e, w.0, f.0, f.1, (w.1).live, (w.1).waiting)

pub settling-holders : (p : Problem) (es : List Entry) → EachOnce es → settled p es ≡ with_holders (new_holders es (settled p es)) es
settling-holders p es o =
    let chosen = new_holders es (settled p es) in
    sym (agrees-rest p es chosen (settling-agrees p es chosen o (settling-exact p es o)) [] es refl)
