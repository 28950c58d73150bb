-- What a step makes of what its seat knows.
use Rattle.std.specs.Prelude.{◌≡◌, ℕ, true, false, [], ◌∷◌, ◌++◌}
use mathlib.Core.Option.{Option, none, some}
use Rattle.atomic_table.specs.Table.{Step, Me}
use Rattle.lock_messages.specs.declared.ids.Actor.{Actor}
use Rattle.world_model.specs.declared.events.Effect.{Effect}
use Rattle.world_model.specs.declared.events.Event.{Event}
use Rattle.world_model.specs.declared.exact.ExactWorld.{ExactWorld}
use Rattle.berth_seats.specs.declared.views.Announcement.{Announcement}
use Rattle.berth_seats.specs.declared.views.Announcement.TheVariants.{Give, Add}
use Rattle.berth_seats.specs.declared.views.BookView.{BookView}
use Rattle.berth_seats.specs.declared.views.BerthView.{BerthView}
use Rattle.berth_seats.specs.declared.views.View.{View}
use Rattle.berth_seats.specs.Views.{opened, empty_world, no_berth}
use Rattle.berth_seats.specs.Ties.{IsTied}

-- the book with one event more, and its effect
abbrev pub with_event : Event → Effect → BookView → BookView
with_event e done b = record { opening = b.opening; history = b.history ++ (e, done) ∷ []; given = b.given }

-- the book with one actor more that was given a berth
abbrev pub with_given : Actor → BookView → BookView
with_given who b = record { opening = b.opening; history = b.history; given = b.given ++ who ∷ [] }

-- the berth after it has seen all of the book's history
abbrev pub shown : BookView → BerthView → BerthView
shown b k = record { actor = k.actor; opening = k.opening; seen = b.history }

-- a new berth of the actor, which has seen all of the book's history
abbrev pub new_berth : Actor → BookView → BerthView
new_berth who b = record { actor = who; opening = b.opening; seen = b.history }

-- The book is opened: no berth is aboard.
abbrev pub begun : ExactWorld → View → View
begun w v = record { is_book = true; book = opened w; has_berth = false; berth = v.berth }

-- what the book's seat knows after a step, by what was announced: without a word the berth that is aboard
-- is shown the history
abbrev pub after : Option Announcement → View → View
after none v = record { is_book = v.is_book; book = v.book; has_berth = v.has_berth; berth = shown v.book v.berth }
after (some (Give who)) v = record { is_book = v.is_book; book = with_given who v.book; has_berth = true; berth = new_berth who v.book }
after (some (Add e done)) v = record { is_book = v.is_book; book = with_event e done v.book; has_berth = v.has_berth; berth = shown (with_event e done v.book) v.berth }

-- The opening is told: w is what the book is opened with.
abbrev pub Begins : ExactWorld → Step Announcement → Me Announcement View → ℕ → Me Announcement View → Type 0
Begins w step before found now = (now.0 ≡ begun w before.0) × (now.1 ≡ before.1)

-- A step tells what it makes of what the seat knew, and that the book and the berth that is aboard were tied.
abbrev pub Tells : Step Announcement → Me Announcement View → ℕ → Me Announcement View → Type 0
Tells step before found now =
    (now.0 ≡ after step.said before.0) × (now.1 ≡ before.1)
    × (before.0.is_book ≡ true → before.0.has_berth ≡ true → IsTied before.0.book before.0.berth)

-- A step tells that the book and the berth that is aboard are tied, and changes nothing.
abbrev pub TellsTie : Step Announcement → Me Announcement View → ℕ → Me Announcement View → Type 0
TellsTie step before found now =
    (now.0 ≡ before.0) × (now.1 ≡ before.1) × (before.0.is_book ≡ true → before.0.has_berth ≡ true → IsTied before.0.book before.0.berth)

-- the seat without a berth
abbrev pub ashore : View → View
ashore v = record { is_book = v.is_book; book = v.book; has_berth = false; berth = v.berth }

-- what is split off: the berth that is aboard, if there is one, and nothing of the book
abbrev pub landed : View → View
landed v = record { is_book = false; book = v.book; has_berth = v.has_berth; berth = v.berth }

-- the seat v takes aboard the berth of the seat u
abbrev pub aboard : View → View → View
aboard v u = record { is_book = v.is_book; book = v.book; has_berth = u.has_berth; berth = u.berth }

-- a seat that is nobody's
abbrev pub idle : View
idle = record { is_book = false; book = opened empty_world; has_berth = false; berth = no_berth }
