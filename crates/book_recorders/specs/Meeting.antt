-- What a berth has seen where a recorder over a shared book is told who is inside.
use Rattle.std.specs.Prelude.{◌≡◌, ℕ, List, ◌++◌}
use Rattle.lock_messages.specs.declared.tickets.Ticket.{Ticket}
use Rattle.world_model.specs.declared.events.Effect.{Effect}
use Rattle.world_model.specs.declared.events.Event.{Event}
use Rattle.world_model.specs.declared.exact.ExactWorld.{ExactWorld}
use Rattle.world_model.specs.Company.{AreThoseInside}
use Rattle.history_book.specs.Books.{BerthValue}
use Rattle.book_recorders.specs.Sharing.{after_seeing, Between}

-- The berth has seen what others logged since, none of it its actor's; with what it had seen before it leads to this
-- world.
pub record HasSeenOn (k k' : BerthValue) (now : ExactWorld) : Type 0 where
  pub between : List (Event × Effect)
  pub others : Between k between now
  pub berth : k' ≡ after_seeing k (k.seen ++ between)

-- These are the tickets of those who are inside the resource in the world that the history leaves which the berth has
-- seen now.
pub record SeesInside (k : BerthValue) (x : List ℕ) (tickets : List Ticket) (k' : BerthValue) : Type 0 where
  pub now : ExactWorld
  pub seen : HasSeenOn k k' now
  pub those : AreThoseInside now x tickets
