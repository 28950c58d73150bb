-- A recorder with a book of its own.
use Rattle.std.specs.Prelude.{◌≡◌, []}
use Rattle.lock_messages.specs.declared.ids.Actor.{Actor}
use Rattle.world_model.specs.declared.exact.ExactWorld.{ExactWorld}
use Rattle.world_model.specs.Parts.{part}
use Rattle.history_book.specs.Books.{BookValue, BerthValue}
use Rattle.book_recorders.specs.Sharing.{log_of}

-- the book, and the one berth that logs in it
pub record Alone : Type 0 where
  pub book : BookValue
  pub berth : BerthValue

-- the berth is the book's own, and has seen all of its history
pub record IsAlone (b : BookValue) (k : BerthValue) : Type 0 where
  pub number : k.number ≡ b.number
  pub table : k.table ≡ b.table
  pub seen : k.seen ≡ b.history

-- The book is opened with this world, and nothing is logged in it; the berth is its own, of this actor, and
-- so the actor's own log is empty.
pub record IsUnloggedOf (w : ExactWorld) (who : Actor) (b : BookValue) (k : BerthValue) : Type 0 where
  pub alone : IsAlone b k
  pub opening : b.opening ≡ w
  pub world : b.world ≡ w
  pub history : b.history ≡ []
  pub log : log_of k ≡ record { actor = who; ballots = w.ballots; opening = part w who; events = [] }
