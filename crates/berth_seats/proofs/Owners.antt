-- What is left of the rule as one seat's view changes, and as an actor's berth goes to another seat.
use Rattle.std.proofs.Common.{◌≡◌, ◌≢◌, ℕ, eqb, cond, List, [], ◌∷◌, ◌++◌, length, set, Bool, true, refl, sym, ap, ◌∙◌, subst, ⊎_elim, eq-eqb, ne_eqb}
use mathlib.Core.Option.{some}
use lib.ListN.{get_elem?}
use Rattle.atomic_table.proofs.Lists.{at_set}
use Rattle.berth_seats.specs.declared.views.BookView.{BookView}
use Rattle.berth_seats.specs.declared.views.View.{View}
use Rattle.berth_seats.specs.Ties.{IsTied, Fits}
use Rattle.berth_seats.proofs.Lists.{at_new}

-- the owner of the berth at the place p is the seat
abbrev pub moved : (ℕ → ℕ) → ℕ → ℕ → ℕ → ℕ
moved owner p seat q = cond (eqb q p) seat (owner q)

pub moved_here : (owner : ℕ → ℕ) (p seat : ℕ) → moved owner p seat p ≡ seat
moved_here owner p seat = ap (λ (b : Bool). cond b seat (owner p)) (eq-eqb p p refl)

pub moved_else : (owner : ℕ → ℕ) (p seat q : ℕ) → q ≢ p → moved owner p seat q ≡ owner q
moved_else owner p seat q apart = ap (λ (b : Bool). cond b seat (owner q)) (ne_eqb q p apart)

-- two seats have berths of two actors
pub apart_at : (owner : ℕ → ℕ) (i j p q : ℕ) → j ≢ i → owner p ≡ i → owner q ≡ j → q ≢ p
apart_at owner i j p q far mine theirs same = far (sym theirs ∙ ap owner same ∙ mine)

abbrev pub All : ℕ → BookView → (ℕ → ℕ) → List View → Type 0
All keeper book owner views = (seat : ℕ) (v : View) → get_elem? views seat ≡ some v → Fits keeper book owner seat v

-- all but the seat i
abbrev pub Others : ℕ → BookView → (ℕ → ℕ) → List View → ℕ → Type 0
Others keeper book owner views i = (seat : ℕ) (v : View) → seat ≢ i → get_elem? views seat ≡ some v → Fits keeper book owner seat v

pub fits_set : (keeper : ℕ) (book : BookView) (owner : ℕ → ℕ) (views : List View) (i : ℕ) (w : View) → Others keeper book owner views i → Fits keeper book owner i w → All keeper book owner (set views i w)
fits_set keeper book owner views i w others mine j u e =
    ⊎_elim
    (λ (t : (j ≡ i) × (w ≡ u)). subst (λ (y : ℕ × View). Fits keeper book owner y.0 y.1) (λ k. (sym t.0 k, t.1 k)) mine)
    (λ (t : (j ≢ i) × (get_elem? views j ≡ some u)). others j u t.0 t.1)
    (at_set views i j w u e)

pub fits_new : (keeper : ℕ) (book : BookView) (owner : ℕ → ℕ) (views : List View) (w : View) → All keeper book owner views → Fits keeper book owner (length views) w → All keeper book owner (views ++ w ∷ [])
fits_new keeper book owner views w all new j u e =
    ⊎_elim
    (λ (t : get_elem? views j ≡ some u). all j u t)
    (λ (t : (j ≡ length views) × (w ≡ u)). subst (λ (y : ℕ × View). Fits keeper book owner y.0 y.1) (λ k. (sym t.0 k, t.1 k)) new)
    (at_new views w u j e)

-- the book's seat knows that its berth is tied to what it knows of the book
pub known : (keeper : ℕ) (book : BookView) (owner : ℕ → ℕ) (seat : ℕ) (v : View) → Fits keeper book owner seat v → v.is_book ≡ true → v.has_berth ≡ true → IsTied v.book v.berth
known keeper book owner seat v fits is has = subst (λ (b : BookView). IsTied b v.berth) (sym (fits.of_book is).1) (fits.of_berth has).1
