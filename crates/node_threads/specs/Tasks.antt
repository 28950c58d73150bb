-- What an actor's thread is given, so that it may run.
use Rattle.std.specs.Prelude.{◌≡◌, ℕ, ◌≤◌, ◌==◌, List, length, filter, All}
use Rattle.berth_seats.specs.Views.{TableId}
use Rattle.lock_messages.specs.declared.ids.Actor.TheVariants as actor
use Rattle.lock_model.specs.Ballots.{Ballot}
use Rattle.stable_record.specs.declared.node_records.NodeRecord.{NodeRecord}
use Rattle.event_lines.specs.declared.wishes.Wish.{Wish}
use Rattle.history_book.specs.Books.{BerthValue}
use Rattle.event_recorders.specs.OwnLogs.{IsUnused, FindsPart}
use Rattle.book_recorders.specs.Sharing.{log_of}
use Rattle.node_loop.specs.Standing.{IsReady}
use Rattle.event_lines.specs.declared.wishes.TheConstants.{MAX_WISHES}
use Rattle.client_loop.specs.Standing.{KeepsAttempt}
use Rattle.client_loop.specs.Visits.{ArePlaced}

-- The node's berth is of the book of this table, and its record is that of what it has kept.
pub record IsNodeTask (book : TableId) (n : ℕ) (k : BerthValue) (strings : List (List ℕ)) : Type 0 where
  pub table : k.table ≡ book
  pub kept : NodeRecord
  pub ready : IsReady (log_of k) n kept strings

-- the wishes of this client among these, in order
abbrev pub own_wishes : ℕ → List Wish → List Wish
own_wishes c wishes = filter (λ w. w.client == c) wishes

-- The client's berth is of the book of this table and was not used, and its record finds the attempt that the
-- client has kept.
pub record IsClientBerth (book : TableId) (c : ℕ) (list : List Ballot) (k : BerthValue) (strings : List (List ℕ)) : Type 0 where
  pub table : k.table ≡ book
  pub unused : IsUnused (log_of k) (actor.Client c)
  pub ballots : (log_of k).ballots ≡ list
  pub found : FindsPart (log_of k).opening strings
  pub kept : KeepsAttempt (log_of k).opening

-- That, and the wishes are its own, by places that the ballots have.
pub record IsClientTask (book : TableId) (c : ℕ) (list : List Ballot) (wishes : List Wish) (k : BerthValue) (strings : List (List ℕ)) : Type 0 where
  pub berth : IsClientBerth book c list k strings
  pub own : All (λ w. w.client ≡ c) wishes
  pub few : length wishes ≤ MAX_WISHES
  pub placed : ArePlaced list wishes
