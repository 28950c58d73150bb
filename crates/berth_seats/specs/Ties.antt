-- The rule that ties a book and its berths: what all that the seats of one table know has to do with
-- one another. It knows no kind of event, only which actor each is of.
use Rattle.std.specs.Prelude.{◌≡◌, ℕ, true, List}
use mathlib.Core.Option.{some}
use mathlib.Core.List.{IsPrefix}
use lib.ListN.{get_elem?}
use Rattle.world_model.specs.Locality.{own_events}
use Rattle.world_model.specs.Parts.{place}
use Rattle.berth_seats.specs.declared.views.BookView.{BookView}
use Rattle.berth_seats.specs.declared.views.BerthView.{BerthView}
use Rattle.berth_seats.specs.declared.views.View.{View}
use Rattle.berth_seats.specs.Views.{is_given}

-- A berth is tied to the book: what it has seen begins the history; the history has of its actor just
-- the events that are in what it has seen; they agree on the opening; and its actor was given a berth.
pub record IsTied (book : BookView) (berth : BerthView) : Type 0 where
  pub begins : IsPrefix berth.seen book.history
  pub own : own_events berth.actor book.history ≡ own_events berth.actor berth.seen
  pub opening : berth.opening ≡ book.opening
  pub given : is_given book.given berth.actor ≡ true

-- What a seat knows is so, where the book is this one, kept by this seat, and each actor's berth is at
-- the seat that `owner` has for the actor's place.
pub record Fits (keeper : ℕ) (book : BookView) (owner : ℕ → ℕ) (seat : ℕ) (v : View) : Type 0 where
  pub of_book : v.is_book ≡ true → (seat ≡ keeper) × (v.book ≡ book)
  pub of_berth : v.has_berth ≡ true → (owner (place v.berth.actor) ≡ seat) × IsTied book v.berth

-- There is one book, which one seat keeps, and one owner of each actor's berth, such that what each seat
-- knows is so.
pub record AreTied (views : List View) : Type 0 where
  pub keeper : ℕ
  pub book : BookView
  pub owner : ℕ → ℕ
  pub fits : (seat : ℕ) (v : View) → get_elem? views seat ≡ some v → Fits keeper book owner seat v
