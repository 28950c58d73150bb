-- Books over worlds in which nothing has happened, and the own logs of their actors.
use Rattle.std.specs.Prelude.{◌≡◌, ℕ, List, []}
use Rattle.lock_messages.specs.declared.ids.Actor.{Actor}
use Rattle.lock_model.specs.declared.problems.Problem.{Problem}
use Rattle.lock_model.specs.Ballots.{Ballot}
use Rattle.world_model.specs.Parts.{part}
use Rattle.history_book.specs.Books.{BookValue, BerthValue}
use Rattle.event_recorders.specs.OwnLogs.{OwnLog}
use Rattle.book_recorders.specs.Sharing.{log_of}
use Rattle.test_support.specs.Fresh.{fresh_world}

-- a book over such a world, in which nothing is logged
pub record IsNewBook (b : List Ballot) (p : Problem) (clients : ℕ) (k : BookValue) : Type 0 where
  pub opening : k.opening ≡ fresh_world b p clients
  pub history : k.history ≡ []

-- the log of this actor, which has logged nothing, in such a world
abbrev pub new_log : List Ballot → Problem → ℕ → Actor → OwnLog
new_log b p clients who = record { actor = who; ballots = b; opening = part (fresh_world b p clients) who; events = [] }

-- the book's own berth of this actor, in whose log there is nothing
pub record IsUnlogged (b : List Ballot) (p : Problem) (clients : ℕ) (who : Actor) (k : BerthValue) (book : BookValue) : Type 0 where
  pub table : k.table ≡ book.table
  pub log : log_of k ≡ new_log b p clients who
