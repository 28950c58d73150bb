-- What a book tells of those who are inside a resource.
use Rattle.std.specs.Prelude.{◌≡◌, ℕ, List}
use Rattle.lock_messages.specs.declared.tickets.Ticket.{Ticket}
pub use Rattle.world_model.specs.Company.{AreThoseInside}
use Rattle.history_book.specs.Books.{BookValue, BerthValue, Known, sees}

-- These are the tickets of those who are inside the resource in the book's world. The berth has seen all of the
-- history, and nothing else changed.
pub record TellsInside (b : BookValue) (k : BerthValue) (x : List ℕ) (tickets : List Ticket) (k' : BerthValue) : Type 0 where
  pub known : Known b k
  pub seen : k' ≡ sees b k
  pub those : AreThoseInside b.world x tickets
