-- With what an actor's thread began, and what holds of a recorder that writes no journal.
use Rattle.std.specs.Prelude.{◌≡◌, ℕ, List, [], Option, None, ⊤}
use Rattle.lock_messages.specs.declared.ids.Actor.{Actor}
use Rattle.lock_messages.specs.declared.ids.Actor.TheVariants as actor
use Rattle.lock_model.specs.Ballots.{Ballot}
use Rattle.world_model.specs.declared.events.Effect.{Effect}
use Rattle.world_model.specs.declared.events.Event.{Event}
use Rattle.world_model.specs.Parts.{Part, NoPart}
use Rattle.event_recorders.specs.OwnLogs.{OwnLog, IsDownAtRest, part_now}
use Rattle.merge_model.specs.OwnRuns.{IsOwnRun}
use Rattle.node_loop.specs.Standing.{as_opened}
use Rattle.own_recorders.specs.OwnJournals.{OwnKeeper, opening_of}

-- With which log a thread began, before any event, and what its journal's writer held, if that is known.
pub record Beginning : Type 0 where
  pub log : OwnLog
  pub before : Option (List ℕ)

-- the beginning of a recorder that writes a journal, and of one that writes none
abbrev pub begun : OwnKeeper → Beginning
begun k = record { log = as_opened k.log; before = k.before }

abbrev pub unwritten : OwnLog → Beginning
unwritten l = record { log = as_opened l; before = None }

-- some beginning, which no actor has
abbrev pub no_beginning : Beginning
no_beginning = record { log = record { actor = actor.Node 0; ballots = []; opening = NoPart; events = [] }; before = None }

-- the log is an own run from where it was opened
abbrev pub IsOwnLog : OwnLog → Type 0
IsOwnLog l = IsOwnRun l.ballots l.actor l.opening l.events

-- the log that the parts of a recorder without a journal are about
abbrev pub log_of_parts : {K : Type 0} → (K → Actor) → (K → List Ballot) → (K → Part) → K → List (K × ⊤) → List (Event × Effect) → OwnLog
log_of_parts actor ballots part k opened made = record { actor = actor k; ballots = ballots k; opening = opening_of part opened; events = made }

-- What holds of such a recorder. Its actor was down when the log was opened, is as the log says, and the log is an own run.
pub record IsQuiet (l : OwnLog) (p : Part) : Type 0 where
  pub down : IsDownAtRest l.actor l.opening
  pub part : part_now l ≡ p
  pub run : IsOwnLog l
