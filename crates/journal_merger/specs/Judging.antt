-- What is found of journals that are judged, however many messages they say.
use Rattle.std.specs.Prelude.{◌≡◌, ◌<◌, ℕ, length, true, false, List, map, Option, Some, None, Result, Ok, Err, slice_get}
use Rattle.lock_messages.specs.declared.ids.Actor.{Actor}
use Rattle.world_model.specs.declared.events.Effect.{Effect}
use Rattle.world_model.specs.declared.events.Event.{Event}
use Rattle.world_model.specs.declared.exact.ExactWorld.{ExactWorld}
use Rattle.world_model.specs.Parts.{part}
use Rattle.merge_model.specs.LongHistories.{IsLongHistory}
use Rattle.own_journals.specs.declared.lines.OwnLine.{OwnLine}
use Rattle.journal_merge.specs.LineMerges.{TellsLine, Journals, HasMerge}
use Rattle.line_merger.specs.declared.offers.Offer.{Offer}
use Rattle.line_merger.specs.declared.offers.Offer.TheVariants as offer
use Rattle.line_merger.specs.declared.offers.Taken.{Taken}
use Rattle.line_merger.specs.Offers.{events_of}
use Rattle.journal_merger.specs.Merges.{Waits, Refuses, AreIdle, OneWaits}
use Rattle.journal_merger.specs.Pendings.{Pending, AreLeft, lines_of}
use Rattle.journal_merger.specs.declared.faults.Failure.{Failure}
use Rattle.journal_merger.specs.declared.faults.JournalsFault.{JournalsFault}
use Rattle.journal_merger.specs.declared.faults.JournalsFault.TheVariants as fault
use Rattle.journal_merger.specs.declared.finding.Found.{Found}
use Rattle.journal_merger.specs.declared.finding.Found.TheVariants as found
use Rattle.journal_merger.specs.declared.finding.Turn.{Turn}
use Rattle.journal_merger.specs.declared.finding.Turn.TheVariants as turn
use Rattle.journal_merger.specs.declared.merging.Outcome.{Outcome}
use Rattle.journal_merger.specs.declared.merging.Outcome.TheVariants as outcome

-- a fault that judging may meet: no list of messages is full, and nothing is written
abbrev pub IsJudgeFault : JournalsFault → Type 0
IsJudgeFault fault.NoActor = ⊥
IsJudgeFault fault.SameActor = ⊥
IsJudgeFault fault.NoLine = Unit {0}
IsJudgeFault fault.OtherActor = Unit {0}
IsJudgeFault fault.Full = ⊥
IsJudgeFault fault.Read = Unit {0}
IsJudgeFault fault.Write = ⊥
IsJudgeFault fault.Memory = Unit {0}
IsJudgeFault fault.TooManyLines = Unit {0}

-- What is found of journals. Merged: the texts have so many lines, and these have a merge. Stuck: whatever lines the texts
-- have, they have no merge.
abbrev pub Judges : ExactWorld → List Pending → Result Outcome Failure → Type 0
Judges w pending (Ok (outcome.Merged lines)) = (journals : Journals) × AreLeft (Unit {0}) pending journals × HasMerge w journals × (lines ≡ lines_of pending journals)
Judges w pending (Ok (outcome.Stuck why)) = (journals : Journals) → AreLeft ⊥ pending journals → HasMerge w journals → ⊥
Judges w pending (Err f) = IsJudgeFault f.fault

-- The next line of the actor is taken, by these events.
pub record IsTaken (w : ExactWorld) (who : Actor) (next : Option OwnLine) (t : Taken) (v : ExactWorld) : Type 0 where
  pub line : OwnLine
  pub next_is : next ≡ Some line
  pub events : List (Event × Effect)
  pub tells : TellsLine w.ballots who (part w who) line events
  pub history : IsLongHistory w events v
  pub are : map (λ q. q.0) events ≡ events_of who line t

-- What came of an actor's turn. Only a line that is taken or refused may change the world.
abbrev pub IsTurn : ExactWorld → Actor → Option OwnLine → Turn → ExactWorld → Type 0
IsTurn w who next turn.Ended v = (v ≡ w) × (next ≡ None)
IsTurn w who next turn.Waits v = (v ≡ w) × Waits w who next
IsTurn w who next (turn.Took t) v = IsTaken w who next t v
IsTurn w who next (turn.Refused why) v = Refuses w who next

-- what comes of an offer
abbrev pub turn_of : Offer → Turn
turn_of (offer.Took t) = turn.Took t
turn_of offer.Waits = turn.Waits
turn_of (offer.Refused why) = turn.Refused why

-- What was found in a round over all journals.
abbrev pub IsFound : ExactWorld → List Pending → Found → ExactWorld → Type 0
IsFound w pending (found.Took i t) v = (p : Pending) × (slice_get pending i ≡ Some p) × IsTaken w p.who p.next t v
IsFound w pending (found.Refused i why) v = (p : Pending) × (slice_get pending i ≡ Some p) × Refuses w p.who p.next
IsFound w pending found.Stuck v = AreIdle w pending (length pending) × OneWaits w pending (length pending) true
IsFound w pending found.Merged v = (v ≡ w) × OneWaits w pending (length pending) false

-- A journal whose line was taken is one of so many.
abbrev pub IsWithin : ℕ → Found → Type 0
IsWithin count (found.Took i t) = i < count
IsWithin count (found.Refused i why) = Unit {0}
IsWithin count found.Stuck = Unit {0}
IsWithin count found.Merged = Unit {0}
