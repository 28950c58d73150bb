-- What the steps that nodes and clients share have done.
use Rattle.std.specs.Prelude.{◌≡◌, ◌⊎◌, ℕ, ◌+◌, ◌<◌, ◌≤◌, Bool, true, false, List, [], ◌∷◌, Option, Some, None, Result, Ok, Err}
use Rattle.lock_messages.specs.declared.ids.Actor.{Actor}
use Rattle.lock_messages.specs.declared.messages.Message.{Message}
use Rattle.lock_model.specs.Decisions.{Among}
use Rattle.stable_record.specs.Finding.{FindsOnly, FindsOnlyOr, most_failures}
use Rattle.world_model.specs.declared.events.Age.{Age}
use Rattle.world_model.specs.declared.events.Age.TheVariants.{Old, New}
use Rattle.world_model.specs.declared.events.Effect.{Effect}
use Rattle.world_model.specs.declared.events.Effect.TheVariants as effect
use Rattle.world_model.specs.declared.events.Event.{Event}
use Rattle.world_model.specs.declared.events.Event.TheVariants as event
use Rattle.world_model.specs.Parts.{own_refusal, after_own, message_of}
use Rattle.event_recorders.specs.declared.log_faults.LogFault.{LogFault}
use Rattle.event_recorders.specs.declared.log_faults.LogFault.TheVariants as book
use Rattle.event_recorders.specs.declared.faults.RunFault.{RunFault}
use Rattle.event_recorders.specs.declared.faults.RunFault.TheVariants as fault
use Rattle.actor_steps.specs.declared.reopening.TheConstants.{MAX_REOPENS}
use Rattle.actor_steps.specs.declared.keeping.Keeping.{Keeping}
use Rattle.actor_steps.specs.declared.keeping.Keeping.TheVariants as keeping
use Rattle.event_recorders.specs.OwnLogs.{OwnLog, part_now, kept_in, tried_in, FindsKept, FindsPart, adds, IsAdded}

-- want of memory is told as such, and all else as the book's refusal
abbrev pub run_fault_of : LogFault → RunFault
run_fault_of book.Memory = fault.Memory
run_fault_of book.Full = fault.Book
run_fault_of book.OtherActor = fault.Book
run_fault_of book.OtherBook = fault.Book
run_fault_of (book.NotAStep f) = fault.Book

-- what comes of any other event: its effect, or the fault by which the thread ends
abbrev pub effect_of : Result Effect LogFault → Result Effect RunFault
effect_of (Ok done) = Ok done
effect_of (Err f) = Err (run_fault_of f)

-- What comes of a Take or a Hear: its message, or nothing where the log says that it is no step; the thread
-- ends where the log refuses it for another reason.
abbrev pub reading_of : Result Effect LogFault → Result (Option Message) RunFault
reading_of (Ok done) = Ok (message_of done)
reading_of (Err (book.NotAStep f)) = Ok None
reading_of (Err book.Memory) = Err (run_fault_of book.Memory)
reading_of (Err book.Full) = Err (run_fault_of book.Full)
reading_of (Err book.OtherActor) = Err (run_fault_of book.OtherActor)
reading_of (Err book.OtherBook) = Err (run_fault_of book.OtherBook)

-- The event that reads a message joined the log, and this is the message that its effect has.
pub record HasRead (l : OwnLog) (e : Event) (m : Message) (l' : OwnLog) : Type 0 where
  pub done : Effect
  pub message : message_of done ≡ Some m
  pub added : IsAdded l e done l'

-- the faults of logging, of rising and of keeping
abbrev pub IsBookFault : RunFault → Type 0
IsBookFault f = (f ≡ fault.Memory) ⊎ (f ≡ fault.Book)

abbrev pub IsRiseFault : RunFault → Type 0
IsRiseFault f = (f ≡ fault.NotReopened) ⊎ IsBookFault f

abbrev pub IsKeepingFault : RunFault → Type 0
IsKeepingFault f = (f ≡ fault.Spent) ⊎ IsBookFault f

-- the device failed so many times more, or its count stands at the greatest
-- This is a lower bound: a record's meaning says that its count rose at a failure, and not by how much.
abbrev pub HasFailed : ℕ → ℕ → ℕ → Type 0
HasFailed times before now = (before + times ≤ now) ⊎ (most_failures ≤ now)

-- Why no reopen found anything, after so many that failed: there may be no more (911), or memory was refused
-- (914).
abbrev pub EndsReopening : RunFault → ℕ → Type 0
EndsReopening fault.NotReopened failed = failed ≡ MAX_REOPENS
EndsReopening fault.Memory failed = failed < MAX_REOPENS
EndsReopening fault.TooFewNodes failed = ⊥
EndsReopening fault.GaveUp failed = ⊥
EndsReopening fault.Book failed = ⊥
EndsReopening fault.Spent failed = ⊥

-- a reopen failed: nothing new is found, and the device has failed so many times more
pub record HasNotReopened (times : ℕ) (before now : List (List ℕ)) (count count' : ℕ) : Type 0 where
  pub found : FindsOnly before now
  pub failed : HasFailed times count count'

-- the record was reopened: of what it could find, just these bytes are found now, and it isn't stuck
pub record IsReopened (bytes : List ℕ) (before now : List (List ℕ)) (stuck : Bool) : Type 0 where
  pub among : Among bytes before
  pub found : now ≡ bytes ∷ []
  pub free : stuck ≡ false

-- a restart finds just these bytes, which are what the actor has kept; and the record isn't stuck
pub record HasFound (bytes : List ℕ) (l : OwnLog) (strings : List (List ℕ)) (stuck : Bool) : Type 0 where
  pub kept : bytes ≡ kept_in (part_now l)
  pub found : strings ≡ bytes ∷ []
  pub free : stuck ≡ false
  pub finds : FindsPart (part_now l) strings

-- The device failed in a keep of these bytes, which it has counted: a restart finds them, or what it could
-- find before, and the record is stuck.
pub record HasFailedPut (bytes : List ℕ) (before now : List (List ℕ)) (stuck : Bool) (count count' : ℕ) : Type 0 where
  pub only : FindsOnlyOr before bytes now
  pub is_stuck : stuck ≡ true
  pub counted : HasFailed 1 count count'

-- What came of a keep: a restart finds just these bytes, and the record isn't stuck; or the device failed.
abbrev pub IsPut : Keeping → List ℕ → List (List ℕ) → List (List ℕ) → Bool → ℕ → ℕ → Type 0
IsPut keeping.Kept bytes before now stuck count count' = (now ≡ bytes ∷ []) × (stuck ≡ false)
IsPut keeping.Failed bytes before now stuck count count' = HasFailedPut bytes before now stuck count count'

-- the actor tried, and has kept
pub record IsKept (l : OwnLog) (who : Actor) (l' : OwnLog) : Type 0 where
  pub tried : IsAdded l (event.Try who) effect.Tried (adds l (event.Try who) effect.Tried)
  pub kept : IsAdded (adds l (event.Try who) effect.Tried) (event.Kept who) effect.Kept l'

-- the actor fell, and rose
pub record IsRisenAgain (l : OwnLog) (who : Actor) (age : Age) (l' : OwnLog) : Type 0 where
  pub fallen : IsAdded l (event.Fall who) effect.Down (adds l (event.Fall who) effect.Down)
  pub risen : IsAdded (adds l (event.Fall who) effect.Down) (event.Rise who age) effect.Up l'

-- The actor has tried these bytes: it may log that they are kept, and a restart finds nothing but what is
-- kept and these.
pub record IsTrying (l : OwnLog) (who : Actor) (bytes : List ℕ) (strings : List (List ℕ)) : Type 0 where
  pub actor : l.actor ≡ who
  pub allowed : own_refusal l.ballots (event.Kept who) (part_now l) ≡ None
  pub tried : tried_in (part_now l) ≡ Some bytes
  pub finds : FindsKept (kept_in (part_now l)) (Some bytes) strings

-- the actor has fallen: it may rise with what it kept, and with these bytes, which it tried to keep
pub record IsFallen (l : OwnLog) (who : Actor) (bytes : List ℕ) (strings : List (List ℕ)) : Type 0 where
  pub actor : l.actor ≡ who
  pub old : own_refusal l.ballots (event.Rise who Old) (part_now l) ≡ None
  pub new : own_refusal l.ballots (event.Rise who New) (part_now l) ≡ None
  pub kept : kept_in (after_own l.ballots (event.Rise who Old) effect.Up (part_now l)) ≡ kept_in (part_now l)
  pub tried : kept_in (after_own l.ballots (event.Rise who New) effect.Up (part_now l)) ≡ bytes
  pub tries : tried_in (part_now l) ≡ Some bytes
  pub finds : FindsKept (kept_in (part_now l)) (Some bytes) strings

-- the actor may rise, and has kept these bytes then
pub record IsRising (l : OwnLog) (who : Actor) (age : Age) (bytes : List ℕ) : Type 0 where
  pub actor : l.actor ≡ who
  pub allowed : own_refusal l.ballots (event.Rise who age) (part_now l) ≡ None
  pub kept : kept_in (after_own l.ballots (event.Rise who age) effect.Up (part_now l)) ≡ bytes
