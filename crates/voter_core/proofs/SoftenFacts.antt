-- Softening an attempt, in place.
use Rattle.std.proofs.Common.{◌≡◌, ◌≢◌, ◌↔◌, inl, inr, ◌≤◌, ℕ, ◌==◌, ◌&&◌, Bool, true, false, cond, not, List, [], ◌∷◌, ◌++◌, is_some, Option, Some, None, IsTrue, refl, sym, ap, ◌∙◌, subst}
use Rattle.std.proofs.lemmas.Bool.{and_parts}
use Rattle.std.specs.Option.{option_map}
use Rattle.std.specs.Str.{bytes_eq}
use Rattle.std.proofs.lemmas.Slice.Eq.{bytes_eq-Decides}
use Rattle.lock_messages.specs.declared.tickets.Mode.TheVariants.{Read}
use Rattle.lock_model.specs.declared.entries.Entry.{Entry}
use Rattle.lock_model.specs.declared.entries.Live.{Live}
use Rattle.lock_model.specs.declared.entries.Status.{Status}
use Rattle.lock_model.specs.declared.entries.Status.TheVariants.{Waiting, Holding, Softened}
use Rattle.lock_model.specs.declared.problems.Problem.{Problem}
use Rattle.lock_model.specs.ExactStations.{is_of, entry_of, EachOnce, is_waiting, is_write, is_holding, if_live, admits, promoted, settled_live, settled_entry, settle, settled}
use Rattle.lock_model.specs.ExactDecisions.{live_in, softened_writer, softened_live, softened_in, softened_entry, softened}
use Rattle.lock_model.specs.Judgement.{is_caused}
use Rattle.stable_record.specs.EntryLists.{replaced}
use Rattle.stable_record.specs.Indexing.{softened_holder}
use Rattle.stable_record.proofs.IndexFacts.{nowhere}
use Rattle.voter_core.specs.Freed.{is_as_asked, is_softened_by, freed_by_softening, OthersStay, waiting_for}
use Rattle.voter_core.proofs.EndFacts.{altered-unknown, altered-same, altered-replaces, known-entry}
use Rattle.voter_core.proofs.FreedFacts.{Sheds, StaysOrSheds, AllShed, sheds-none, sheds-altered, sheds-others, fewer-waiting, caused-settled}

-- ---- one ticket

and-none : (b : Bool) → (b && false) ≡ false
and-none true = refl
and-none false = refl

-- a ticket that isn't softened by the attempt stays
live-stays : (a : ℕ) (l : Live) → is_softened_by a l ≡ false → softened_live a l ≡ Some l
live-stays a l h = go ((l.attempt == a) && is_write l.mode) refl l.status refl
  where
    go : (b : Bool) → ((l.attempt == a) && is_write l.mode) ≡ b → (s : Status) → l.status ≡ s → softened_live a l ≡ Some l
    go false is s at = ap (λ b. cond b (softened_writer l l.status) (Some l)) is
    go true is Softened at = ap (λ b. cond b (softened_writer l l.status) (Some l)) is ∙ ap (softened_writer l) at
    go true is Waiting at = let clash : true ≡ false = sym (ap (λ b. b && is_as_asked l.status) is ∙ ap is_as_asked at) ∙ h in cc
    go true is Holding at = let clash : true ≡ false = sym (ap (λ b. b && is_as_asked l.status) is ∙ ap is_as_asked at) ∙ h in cc

entry-stays : (a client floor : ℕ) (live : Option Live) → if_live (is_softened_by a) live ≡ false →
    softened_entry a (record { client = client; floor = floor; live = live }) ≡ record { client = client; floor = floor; live = live }
entry-stays a client floor None h = refl
entry-stays a client floor (Some l) h = ap (λ o. record { client = client; floor = floor; live = o }) (live-stays a l h)

-- one that is softened becomes this
live-softens : (a : ℕ) (l : Live) → is_softened_by a l ≡ true → softened_live a l ≡ softened_writer l l.status
live-softens a l h = ap (λ b. cond b (softened_writer l l.status) (Some l)) (and_parts ((l.attempt == a) && is_write l.mode) (is_as_asked l.status) h).0

-- it waits no more, and is for the resource that it was for
entry-sheds : (a client floor : ℕ) (live : Option Live) →
    StaysOrSheds (freed_by_softening a live) (record { client = client; floor = floor; live = live }) (softened_entry a (record { client = client; floor = floor; live = live }))
entry-sheds a client floor None = inl refl
entry-sheds a client floor (Some l) = go (is_softened_by a l) refl
  where
    entry : Option Live → Entry
    entry o = record { client = client; floor = floor; live = o }

    own : not (bytes_eq l.resource l.resource) ≡ false
    own = ap not ((bytes_eq-Decides l.resource l.resource).1 refl)

    by : (s : Status) → l.status ≡ s → is_softened_by a l ≡ true → Sheds (Some l.resource) (entry (Some l)) (entry (softened_writer l s))
    by Waiting at is = record { new = refl; old = own; still = refl }
    by Holding at is = record { new = own; old = own; still = refl }
    by Softened at is =
        let clash : true ≡ false = sym (and_parts ((l.attempt == a) && is_write l.mode) (is_as_asked l.status) is).1 ∙ ap is_as_asked at in
        cc

    go : (b : Bool) → is_softened_by a l ≡ b → StaysOrSheds (cond b (Some l.resource) None) (entry (Some l)) (softened_entry a (entry (Some l)))
    go false is = inl (entry-stays a client floor (Some l) is)
    go true is = inr (subst (λ o. Sheds (Some l.resource) (entry (Some l)) (entry o)) (sym (live-softens a l is)) (by l.status refl is))

-- one that waits goes, so one of which something is left is a holder's
live-holds : (a : ℕ) (l m : Live) → is_softened_by a l ≡ true → softened_live a l ≡ Some m → softened_live a l ≡ Some (softened_holder l)
live-holds a l m is some = go l.status refl
  where
    parts : (((l.attempt == a) && is_write l.mode) ≡ true) × (is_as_asked l.status ≡ true)
    parts = and_parts ((l.attempt == a) && is_write l.mode) (is_as_asked l.status) is

    write : is_write l.mode ≡ true
    write = (and_parts (l.attempt == a) (is_write l.mode) parts.0).1

    soft : Live
    soft = record l { mode = Read; status = Softened }

    go : (s : Status) → l.status ≡ s → softened_live a l ≡ Some (softened_holder l)
    go Waiting at = let clash : None ≡ Some m = sym (live-softens a l is ∙ ap (softened_writer l) at) ∙ some in cc
    go Softened at = let clash : true ≡ false = sym parts.1 ∙ ap is_as_asked at in cc
    go Holding at =
        live-softens a l is ∙ ap (softened_writer l) at
        ∙ sym (ap (λ b. Some (cond (b && is_holding l.status) soft l)) write ∙ ap (λ s. Some (cond (is_holding s) soft l)) at)

-- the ticket as the index has it, where something of it is left
pub index-softens : (a : ℕ) (l m : Live) (live after : Option Live) → live ≡ Some l → is_softened_by a l ≡ true → after ≡ softened_live a l → after ≡ Some m → option_map softened_holder live ≡ after
index-softens a l m live after is by made some = ap (option_map softened_holder) is ∙ sym (live-holds a l m by (sym made ∙ some)) ∙ sym made

-- ---- the entries

sheds-softened : (c a : ℕ) (es : List Entry) → EachOnce es → AllShed (freed_by_softening a (live_in (entry_of es c))) es (softened c a es)
sheds-softened c a es once = go (entry_of es c) refl
  where
    go : (o : Option Entry) → entry_of es c ≡ o → AllShed (freed_by_softening a (live_in o)) es (softened c a es)
    go None is = subst (AllShed None es) (sym (altered-unknown c (softened_entry a) es (nowhere c es is))) (sheds-none None es)
    go (Some e) is = sheds-altered (freed_by_softening a e.live) c (softened_entry a) es e once is (entry-sheds a e.client e.floor e.live)

-- once an attempt is softened no ticket but those for its resource would settle
pub others-softened : (p : Problem) (c a : ℕ) (es : List Entry) (o : Option (List ℕ)) (new : List Entry) → EachOnce es → is_caused p es ≡ true → o ≡ freed_by_softening a (live_in (entry_of es c)) →
    new ≡ softened c a es → OthersStay p o new
others-softened p c a es o new once caused is made =
    subst (λ l. OthersStay p o l) (sym made)
    (subst (λ f. OthersStay p f (softened c a es)) (sym is) (sheds-others p (freed_by_softening a (live_in (entry_of es c))) es (softened c a es) (sheds-softened c a es once) caused))

-- and no more wait for it than before
pub waiting-softened : (c a : ℕ) (es : List Entry) (o : Option (List ℕ)) (new : List Entry) → EachOnce es → o ≡ freed_by_softening a (live_in (entry_of es c)) → new ≡ softened c a es →
    waiting_for o new ≤ waiting_for (freed_by_softening a (live_in (entry_of es c))) es
waiting-softened c a es o new once is made =
    subst (λ l. waiting_for o l ≤ waiting_for (freed_by_softening a (live_in (entry_of es c))) es) (sym made)
    (subst (λ f. waiting_for f (softened c a es) ≤ waiting_for (freed_by_softening a (live_in (entry_of es c))) es) (sym is)
    (fewer-waiting (freed_by_softening a (live_in (entry_of es c))) es (softened c a es) (sheds-softened c a es once)))

-- a stranger's attempt softens nothing, and neither does one that no live ticket is softened by
pub softened-unknown : (c a : ℕ) (es : List Entry) → entry_of es c ≡ None → es ≡ softened c a es
softened-unknown c a es none = sym (altered-unknown c (softened_entry a) es (nowhere c es none))

pub softened-same : (c a : ℕ) (es : List Entry) (e : Entry) → EachOnce es → entry_of es c ≡ Some e → if_live (is_softened_by a) e.live ≡ false → es ≡ softened c a es
softened-same c a es e once found none = sym (altered-same c (softened_entry a) es e once found (entry-stays a e.client e.floor e.live none))

-- else the entry is replaced
pub softened-known : (c a : ℕ) (es : List Entry) (e : Entry) → EachOnce es → entry_of es c ≡ Some e → replaced (softened_entry a e) es ≡ softened c a es
softened-known c a es e once found = sym (altered-replaces c (softened_entry a) es e (softened_entry a e) once found refl (known-entry c es e found).1)

-- ---- a softening changes the entries exactly where a ticket is softened

-- the test on a client's entry
abbrev softens : ℕ → Option Entry → Bool
softens a o = if_live (is_softened_by a) (live_in o)

softens-freed : (a : ℕ) (live : Option Live) → is_some (freed_by_softening a live) ≡ if_live (is_softened_by a) live
softens-freed a None = refl
softens-freed a (Some l) = go (is_softened_by a l)
  where
    go : (b : Bool) → is_some (cond b (Some l.resource) None) ≡ b
    go true = refl
    go false = refl

-- no ticket is softened twice
live-once : (a : ℕ) (live : Option Live) → if_live (is_softened_by a) (softened_in a live) ≡ false
live-once a None = refl
live-once a (Some l) = go (is_softened_by a l) refl
  where
    turned : (s : Status) → l.status ≡ s → is_softened_by a l ≡ true → if_live (is_softened_by a) (softened_writer l s) ≡ false
    turned Waiting at is = refl
    turned Holding at is = and-none ((l.attempt == a) && false)
    turned Softened at is = ap (λ s. ((l.attempt == a) && is_write l.mode) && is_as_asked s) at ∙ and-none ((l.attempt == a) && is_write l.mode)

    go : (b : Bool) → is_softened_by a l ≡ b → if_live (is_softened_by a) (softened_live a l) ≡ false
    go false is = ap (if_live (is_softened_by a)) (live-stays a l is) ∙ is
    go true is = ap (if_live (is_softened_by a)) (live-softens a l is) ∙ turned l.status refl is

softens-once : (c a : ℕ) (es : List Entry) → softens a (entry_of (softened c a es) c) ≡ false
softens-once c a [] = refl
softens-once c a (e ∷ es) = go (is_of c e) refl (softens-once c a es)
  where
    rest : List Entry
    rest = softened c a es

    go : (b : Bool) → is_of c e ≡ b → softens a (entry_of rest c) ≡ false → softens a (entry_of (cond b (softened_entry a e) e ∷ rest) c) ≡ false
    go true is h = ap (λ b. softens a (cond b (Some (softened_entry a e)) (entry_of rest c))) is ∙ live-once a e.live
    go false is h = ap (λ b. softens a (cond b (Some e) (entry_of rest c))) is ∙ h

-- settling makes no difference to it
live-settles : (a : ℕ) (p : Problem) (es : List Entry) (live : Option Live) → if_live (is_softened_by a) (option_map (settled_live p es) live) ≡ if_live (is_softened_by a) live
live-settles a p es None = refl
live-settles a p es (Some l) = go l.status refl (admits p l.mode l.resource es)
  where
    test : Status → Bool
    test s = ((l.attempt == a) && is_write l.mode) && is_as_asked s

    go : (s : Status) → l.status ≡ s → (b : Bool) → is_softened_by a (cond (is_waiting l.status && b) (promoted l) l) ≡ is_softened_by a l
    go Holding at b = ap (λ s. is_softened_by a (cond (is_waiting s && b) (promoted l) l)) at
    go Softened at b = ap (λ s. is_softened_by a (cond (is_waiting s && b) (promoted l) l)) at
    go Waiting at false = ap (λ s. is_softened_by a (cond (is_waiting s && false) (promoted l) l)) at
    go Waiting at true = ap (λ s. is_softened_by a (cond (is_waiting s && true) (promoted l) l)) at ∙ sym (ap test at)

softens-settled : (a c : ℕ) (p : Problem) (front es : List Entry) → softens a (entry_of (settle p front es) c) ≡ softens a (entry_of es c)
softens-settled a c p front [] = refl
softens-settled a c p front (e ∷ es) = go (is_of c e) (softens-settled a c p (front ++ settled_entry p (front ++ e ∷ es) e ∷ []) es)
  where
    rest : List Entry
    rest = settle p (front ++ settled_entry p (front ++ e ∷ es) e ∷ []) es

    go : (b : Bool) → softens a (entry_of rest c) ≡ softens a (entry_of es c) →
        softens a (cond b (Some (settled_entry p (front ++ e ∷ es) e)) (entry_of rest c)) ≡ softens a (cond b (Some e) (entry_of es c))
    go true h = live-settles a p (front ++ e ∷ es) e.live
    go false h = h

nothing-softened : (c a : ℕ) (es : List Entry) → EachOnce es → softens a (entry_of es c) ≡ false → es ≡ softened c a es
nothing-softened c a es once h = go (entry_of es c) refl
  where
    go : (o : Option Entry) → entry_of es c ≡ o → es ≡ softened c a es
    go None is = softened-unknown c a es is
    go (Some e) is = softened-same c a es e once is (sym (ap (softens a) is) ∙ h)

pub softening-changes : (p : Problem) (c a : ℕ) (es : List Entry) (b : Bool) (o : Option (List ℕ)) → EachOnce es → is_caused p es ≡ true → o ≡ freed_by_softening a (live_in (entry_of es c)) → b ≡ is_some o →
    IsTrue b ↔ (settled p (softened c a es) ≢ es)
softening-changes p c a es b o once caused freed is = go (softens a (entry_of es c)) refl
  where
    same : b ≡ softens a (entry_of es c)
    same = is ∙ ap (λ f. is_some f) freed ∙ softens-freed a (live_in (entry_of es c))

    go : (t : Bool) → softens a (entry_of es c) ≡ t → IsTrue b ↔ (settled p (softened c a es) ≢ es)
    go true now = (
      λ h k. let clash : true ≡ false = sym now ∙ ap (λ l. softens a (entry_of l c)) (sym k) ∙ softens-settled a c p [] (softened c a es) ∙ softens-once c a es in cc,
      λ h. same ∙ now,
    )
    go false now =
        let still : settled p (softened c a es) ≡ es = sym (caused-settled p es caused ∙ ap (settled p) (nothing-softened c a es once now)) in (
          λ h. let clash : true ≡ false = sym h ∙ same ∙ now in cc,
          λ apart. absurd (apart still),
        )
