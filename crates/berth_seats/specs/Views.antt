-- What seats know, and what contracts see of a book's seat and of a berth's.
use Rattle.std.specs.Prelude.{◌≡◌, ◌==◌, Bool, true, false, List, []}
use Rattle.std.specs.List.{list_any}
pub use Rattle.atomic_table.specs.Seated.{TableId}
use Rattle.atomic_table.specs.Table.{Me}
use Rattle.lock_messages.specs.declared.ids.Actor.{Actor}
use Rattle.lock_messages.specs.declared.ids.Actor.TheVariants as actor
use Rattle.world_model.specs.declared.exact.ExactWorld.{ExactWorld}
use Rattle.world_model.specs.Locality.{own_events}
use Rattle.world_model.specs.Parts.{place}
use Rattle.berth_seats.specs.declared.views.Announcement.{Announcement}
use Rattle.berth_seats.specs.declared.views.BookView.{BookView}
use Rattle.berth_seats.specs.declared.views.BerthView.{BerthView}
use Rattle.berth_seats.specs.declared.views.View.{View}

-- the seat of a book: its table, which no other book has, and what it knows
pub record BookState : Type 0 where
  pub table : TableId
  pub book : BookView

-- the seat of a berth: its book's table, and what it knows
pub record BerthState : Type 0 where
  pub table : TableId
  pub berth : BerthView

-- the actor is among these
abbrev pub is_given : List Actor → Actor → Bool
is_given given who = list_any (λ a. place a == place who) given

-- a book as it is opened
abbrev pub opened : ExactWorld → BookView
opened w = record { opening = w; history = []; given = [] }

-- a world with nobody in it
abbrev pub empty_world : ExactWorld
empty_world = record { ballots = []; nodes = []; clients = []; sent = [] }

-- no berth is aboard
abbrev pub no_berth : BerthView
no_berth = record { actor = actor.Node 0; opening = empty_world; seen = [] }

-- the first seat of a table is the book's
abbrev pub first : View
first = record { is_book = true; book = opened empty_world; has_berth = false; berth = no_berth }

-- an actor without a berth has no event in the history
abbrev pub OnlyOfGiven : BookView → Type 0
OnlyOfGiven b = (who : Actor) → is_given b.given who ≡ false → own_events who b.history ≡ []

-- the seat is the book's, of this table, which has one word, and has no berth aboard
pub record IsBookSeat (table seat : TableId) (me : Me Announcement View) : Type 0 where
  pub one_word : table.words ≡ 1
  pub of_table : seat ≡ table
  pub no_slot : me.1 ≡ []
  pub is_book : me.0.is_book ≡ true
  pub no_berth : me.0.has_berth ≡ false

-- the seat has a berth
pub record IsBerthSeat (me : Me Announcement View) : Type 0 where
  pub no_slot : me.1 ≡ []
  pub has_berth : me.0.has_berth ≡ true
