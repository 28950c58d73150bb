-- Each step keeps the rule.
use Rattle.std.proofs.Common.{◌≡◌, ◌≢◌, ℕ, zero, suc, List, [], ◌∷◌, ◌++◌, length, set, Bool, true, false, true≢false, refl, sym, ap, ◌∙◌, subst, ⊎_elim}
use mathlib.Core.Option.{none, some, some-ne-none, some-injective}
use lib.ListN.{get_elem?}
use prog.Atomic.{either}
use Rattle.std.specs.Prelude.{◌==◌}
use Rattle.atomic_table.specs.Table.{State, Me, step, keeps, Allows, Splits, Joins}
use Rattle.atomic_table.proofs.Lists.{at_set}
use Rattle.lock_messages.specs.declared.ids.Actor.{Actor}
use Rattle.world_model.specs.declared.events.Effect.{Effect}
use Rattle.world_model.specs.declared.events.Event.{Event}
use Rattle.world_model.specs.declared.exact.ExactWorld.{ExactWorld}
use Rattle.world_model.specs.Parts.{place, is_own}
use Rattle.berth_seats.specs.declared.views.Announcement.{Announcement}
use Rattle.berth_seats.specs.declared.views.Announcement.TheVariants.{Give, Add}
use Rattle.berth_seats.specs.declared.views.BookView.{BookView}
use Rattle.berth_seats.specs.declared.views.BerthView.{BerthView}
use Rattle.berth_seats.specs.declared.views.View.{View}
use Rattle.berth_seats.specs.Views.{is_given, opened, empty_world, first}
use Rattle.berth_seats.specs.Ties.{IsTied, Fits, AreTied}
use Rattle.berth_seats.specs.Steps.{with_event, with_given, shown, begun, after, Begins, Tells, TellsTie, ashore, landed, aboard, idle}
use Rattle.berth_seats.proofs.Lists.{off, begins_itself, begins_longer, not_own, of_other, given_more, given_last, given_apart}
use Rattle.berth_seats.proofs.Owners.{moved, moved_here, moved_else, apart_at, All, fits_set, fits_new, known}

abbrev pub Rule : State Announcement View → Type 0
Rule s = AreTied s.views

abbrev At : List View → ℕ → View → Type 0
At views i v = get_elem? views i ≡ some v

-- a table with the first seat alone
pub starts : AreTied (first ∷ [])
starts = record { keeper = 0; book = opened empty_world; owner = λ _. 0; fits = one }
  where
    one : All 0 (opened empty_world) (λ _. 0) (first ∷ [])
    one zero v e = subst (Fits 0 (opened empty_world) (λ _. 0) 0) (some-injective first v e) (record { of_book = λ _. (refl, refl); of_berth = λ h. off h })
    one (suc j) v e = absurd (some-ne-none v (sym e))

-- no other seat is the book's
only_book : (keeper i j : ℕ) (book : BookView) (owner : ℕ → ℕ) (v u : View) → Fits keeper book owner i v → Fits keeper book owner j u → v.is_book ≡ true → j ≢ i → u.is_book ≡ true → ⊥
only_book keeper i j book owner v u mine theirs is far claims = far ((theirs.of_book claims).0 ∙ sym (mine.of_book is).0)

opens : (views : List View) (i : ℕ) (v : View) (w : ExactWorld) → AreTied views → At views i v → v.is_book ≡ true → v.book.given ≡ [] → AreTied (set views i (begun w v))
opens views i v w t at is none' =
    let mine = t.fits i v at in
    let nobody : t.book.given ≡ [] = ap (λ (b : BookView). b.given) (sym (mine.of_book is).1) ∙ none' in
    record {
      keeper = i;
      book = opened w;
      owner = t.owner;
      fits = fits_set i (opened w) t.owner views i (begun w v)
          (λ j u far e. record {
            of_book = λ claims. absurd (only_book t.keeper i j t.book t.owner v u mine (t.fits j u e) is far claims);
            of_berth = λ has. off (ap (λ (given : List Actor). is_given given u.berth.actor) (sym nobody) ∙ ((t.fits j u e).of_berth has).1.given);
          })
          (record { of_book = λ _. (refl, refl); of_berth = λ h. off h });
    }

pub begins : (n id : ℕ) (me : Me Announcement View) (w : ExactWorld) → me.0.is_book ≡ true → me.0.book.given ≡ [] → Allows Rule n id me 0 (λ x. x) (Begins w (step n 0 0 0 none) me)
begins n id me w is none' s t long at small = (begun w me.0, keeps, tt, opens s.views id me.0 w t at is none', (refl, refl))

-- what a step tells of the book and of the berth that is aboard
tied : (views : List View) (i : ℕ) (v : View) → AreTied views → At views i v → v.is_book ≡ true → v.has_berth ≡ true → IsTied v.book v.berth
tied views i v t at = known t.keeper t.book t.owner i v (t.fits i v at)

looks_at : (views : List View) (i : ℕ) (v : View) → AreTied views → At views i v → v.is_book ≡ true → v.has_berth ≡ true → AreTied (set views i (after none v))
looks_at views i v t at is has =
    let mine = t.fits i v at in
    let k = tied views i v t at is has in
    record {
      keeper = t.keeper;
      book = t.book;
      owner = t.owner;
      fits = fits_set t.keeper t.book t.owner views i (after none v)
          (λ j u far e. t.fits j u e)
          (record {
            of_book = mine.of_book;
            of_berth = λ _. (
              (mine.of_berth has).0,
              subst (λ (b : BookView). IsTied b (shown v.book v.berth)) (mine.of_book is).1
                  (record { begins = begins_itself v.book.history; own = refl; opening = k.opening; given = k.given }),
            );
          });
    }

pub looks : (n id : ℕ) (me : Me Announcement View) → me.0.is_book ≡ true → me.0.has_berth ≡ true → Allows Rule n id me 0 (λ x. x) (Tells (step n 0 0 0 none) me)
looks n id me is has s t long at small = (after none me.0, keeps, tt, looks_at s.views id me.0 t at is has, (refl, refl, tied s.views id me.0 t at))

stays_at : (views : List View) (i : ℕ) (v : View) → AreTied views → At views i v → AreTied (set views i v)
stays_at views i v t at = record {
  keeper = t.keeper;
  book = t.book;
  owner = t.owner;
  fits = fits_set t.keeper t.book t.owner views i v (λ j u far e. t.fits j u e) (t.fits i v at);
}

pub asks : (n id : ℕ) (me : Me Announcement View) → Allows Rule n id me 0 (λ x. x) (TellsTie (step n 0 0 0 none) me)
asks n id me s t long at small = (me.0, keeps, tt, stays_at s.views id me.0 t at, (refl, refl, tied s.views id me.0 t at))

-- a berth of another actor is still tied once an actor more has a berth
tied_more : (who : Actor) (book : BookView) (k : BerthView) → IsTied book k → IsTied (with_given who book) k
tied_more who book k t = record { begins = t.begins; own = t.own; opening = t.opening; given = given_more book.given who k.actor t.given }

gives_to : (views : List View) (i : ℕ) (v : View) (who : Actor) → AreTied views → At views i v → v.is_book ≡ true → is_given v.book.given who ≡ false → AreTied (set views i (after (some (Give who)) v))
gives_to views i v who t at is new =
    let mine = t.fits i v at in
    let same : v.book ≡ t.book = (mine.of_book is).1 in
    let book : BookView = with_given who v.book in
    let owner : ℕ → ℕ = moved t.owner (place who) i in
    record {
      keeper = i;
      book = book;
      owner = owner;
      fits = fits_set i book owner views i (after (some (Give who)) v)
          (λ j u far e.
          let theirs = t.fits j u e in
          record {
            of_book = λ claims. absurd (only_book t.keeper i j t.book t.owner v u mine theirs is far claims);
            of_berth = λ has.
                let f = theirs.of_berth has in
                let k : IsTied v.book u.berth = subst (λ (b : BookView). IsTied b u.berth) (sym same) f.1 in
                (moved_else t.owner (place who) i (place u.berth.actor) (given_apart v.book.given u.berth.actor who k.given new) ∙ f.0, tied_more who v.book u.berth k);
          })
          (record {
            of_book = λ _. (refl, refl);
            of_berth = λ _. (
              moved_here t.owner (place who) i,
              record { begins = begins_itself v.book.history; own = refl; opening = refl; given = given_last v.book.given who },
            );
          });
    }

-- the word stays 0, or stays what it was
abbrev pub same_word : ℕ → ℕ
same_word x = either (x == 0) 0 x

pub gives : (n id : ℕ) (me : Me Announcement View) (who : Actor) → me.0.is_book ≡ true → is_given me.0.book.given who ≡ false → Allows Rule n id me 0 same_word (Tells (step n 0 0 0 (some (Give who))) me)
gives n id me who is new s t long at small = (after (some (Give who)) me.0, keeps, tt, gives_to s.views id me.0 who t at is new, (refl, refl, tied s.views id me.0 t at))

-- a berth of another actor is still tied once the history is longer by this event
tied_after : (e : Event) (done : Effect) (book : BookView) (k : BerthView) → is_own k.actor e ≡ false → IsTied book k → IsTied (with_event e done book) k
tied_after e done book k other t = record {
  begins = begins_longer k.seen book.history ((e, done) ∷ []) t.begins;
  own = not_own k.actor e done book.history other ∙ t.own;
  opening = t.opening;
  given = t.given;
}

adds_to : (views : List View) (i : ℕ) (v : View) (e : Event) (done : Effect) → AreTied views → At views i v → v.is_book ≡ true → v.has_berth ≡ true → is_own v.berth.actor e ≡ true → AreTied (set views i (after (some (Add e done)) v))
adds_to views i v e done t at is has own =
    let mine = t.fits i v at in
    let same : v.book ≡ t.book = (mine.of_book is).1 in
    let book : BookView = with_event e done v.book in
    let k = tied views i v t at is has in
    record {
      keeper = i;
      book = book;
      owner = t.owner;
      fits = fits_set i book t.owner views i (after (some (Add e done)) v)
          (λ j u far at_j.
          let theirs = t.fits j u at_j in
          record {
            of_book = λ claims. absurd (only_book t.keeper i j t.book t.owner v u mine theirs is far claims);
            of_berth = λ has_u.
                let f = theirs.of_berth has_u in
                let apart = apart_at t.owner i j (place v.berth.actor) (place u.berth.actor) far (mine.of_berth has).0 f.0 in
                (f.0, tied_after e done v.book u.berth (of_other v.berth.actor u.berth.actor e own apart) (subst (λ (b : BookView). IsTied b u.berth) (sym same) f.1));
          })
          (record {
            of_book = λ _. (refl, refl);
            of_berth = λ _. (
              (mine.of_berth has).0,
              record { begins = begins_itself book.history; own = refl; opening = k.opening; given = k.given },
            );
          });
    }

pub adds : (n id : ℕ) (me : Me Announcement View) (e : Event) (done : Effect) → me.0.is_book ≡ true → me.0.has_berth ≡ true → is_own me.0.berth.actor e ≡ true
    → Allows Rule n id me 0 same_word (Tells (step n 0 0 0 (some (Add e done))) me)
adds n id me e done is has own s t long at small = (after (some (Add e done)) me.0, keeps, tt, adds_to s.views id me.0 e done t at is has own, (refl, refl, tied s.views id me.0 t at))

-- A seat is split off. If it gets the berth, it is its owner from now on.
cut : (has : Bool) (views : List View) (i : ℕ) (v : View) → v.has_berth ≡ has → AreTied views → At views i v → AreTied (set views i (ashore v) ++ landed v ∷ [])
cut false views i v none' t at = record {
  keeper = t.keeper;
  book = t.book;
  owner = t.owner;
  fits = fits_new t.keeper t.book t.owner (set views i (ashore v)) (landed v)
      (fits_set t.keeper t.book t.owner views i (ashore v) (λ j u far e. t.fits j u e) (record { of_book = (t.fits i v at).of_book; of_berth = λ h. off h }))
      (record { of_book = λ h. off h; of_berth = λ h. absurd (true≢false (sym h ∙ none')) });
}
cut true views i v has t at =
    let mine = t.fits i v at in
    let new : ℕ = length (set views i (ashore v)) in
    let p : ℕ = place v.berth.actor in
    let owner : ℕ → ℕ = moved t.owner p new in
    record {
      keeper = t.keeper;
      book = t.book;
      owner = owner;
      fits = fits_new t.keeper t.book owner (set views i (ashore v)) (landed v)
          (fits_set t.keeper t.book owner views i (ashore v)
          (λ j u far e.
          let theirs = t.fits j u e in
          record {
            of_book = theirs.of_book;
            of_berth = λ has_u. let f = theirs.of_berth has_u in (moved_else t.owner p new (place u.berth.actor) (apart_at t.owner i j p (place u.berth.actor) far (mine.of_berth has).0 f.0) ∙ f.0, f.1);
          })
          (record { of_book = mine.of_book; of_berth = λ h. off h }))
          (record { of_book = λ h. off h; of_berth = λ _. (moved_here t.owner p new, (mine.of_berth has).1) });
    }

pub cuts : (id : ℕ) (v : View) → Splits Rule id v (ashore v) (landed v)
cuts id v s t at = cut v.has_berth s.views id v refl t at

-- A seat's berth is taken aboard, and that seat is nobody's from then on.
boards_at : (views : List View) (i other : ℕ) (v u : View) → u.has_berth ≡ true → AreTied views → At views i v → (other ≡ i → ⊥) → At (set views i (aboard v u)) other u → AreTied (set (set views i (aboard v u)) other idle)
boards_at views i other v u has t at far there =
    let p : ℕ = place u.berth.actor in
    let owner : ℕ → ℕ = moved t.owner p i in
    let there' : At views other u = ⊎_elim (λ (x : (other ≡ i) × (aboard v u ≡ u)). absurd (far x.0)) (λ (x : (other ≢ i) × (get_elem? views other ≡ some u)). x.1) (at_set views i other (aboard v u) u there) in
    let theirs = t.fits other u there' in
    let mine = t.fits i v at in
    let f = theirs.of_berth has in
    record {
      keeper = t.keeper;
      book = t.book;
      owner = owner;
      fits = fits_set t.keeper t.book owner (set views i (aboard v u)) other idle
          (λ j x not_other e.
          ⊎_elim
          (λ (y : (j ≡ i) × (aboard v u ≡ x)). subst (λ (z : ℕ × View). Fits t.keeper t.book owner z.0 z.1) (λ k. (sym y.0 k, y.1 k))
          (record { of_book = mine.of_book; of_berth = λ _. (moved_here t.owner p i, f.1) }))
          (λ (y : (j ≢ i) × (get_elem? views j ≡ some x)).
          let its = t.fits j x y.1 in
          record {
            of_book = its.of_book;
            of_berth = λ has_x. let g = its.of_berth has_x in (moved_else t.owner p i (place x.berth.actor) (apart_at t.owner other j p (place x.berth.actor) not_other f.0 g.0) ∙ g.0, g.1);
          })
          (at_set views i j (aboard v u) x e))
          (record { of_book = λ h. off h; of_berth = λ h. off h });
    }

pub boards : (id : ℕ) (v : View) (other : ℕ) (u : View) → u.has_berth ≡ true → Joins Rule id v other u (aboard v u) idle
boards id v other u has s t at far there = boards_at s.views id other v u has t at far there
