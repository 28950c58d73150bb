-- What comes of a line by which a life begins, step by step.
use Rattle.std.specs.Prelude.{◌≡◌, ◌≢◌, ◌⊎◌, ℕ, Bool, true, false, List, Some, None, Result, Ok, Err, if◌then◌else◌}
use Rattle.lock_messages.specs.declared.ids.Actor.{Actor}
use Rattle.world_model.specs.declared.events.Age.{Age}
use Rattle.world_model.specs.declared.events.Age.TheVariants.{Old, New}
use Rattle.world_model.specs.declared.events.Effect.{Effect}
use Rattle.world_model.specs.declared.events.Event.TheVariants as event
use Rattle.world_model.specs.declared.events.StepFault.{StepFault}
use Rattle.world_model.specs.declared.events.StepFault.TheVariants as step
use Rattle.world_model.specs.declared.exact.ExactWorld.{ExactWorld}
use Rattle.world_model.specs.Laws.{Takes}
use Rattle.world_model.specs.Parts.{part}
use Rattle.merge_model.specs.Lives.{IsDown, kept_record}
use Rattle.own_journals.specs.declared.lines.OwnLine.TheVariants as own
use Rattle.journal_merge.specs.LineMerges.{IsRefused}
use Rattle.line_merger.specs.declared.offers.MergeFault.{MergeFault}
use Rattle.line_merger.specs.declared.offers.MergeFault.TheVariants as fault
use Rattle.line_merger.specs.declared.offers.Offer.{Offer}
use Rattle.line_merger.specs.declared.offers.Offer.TheVariants as offer
use Rattle.line_merger.specs.declared.offers.Refusal.TheVariants as refusal
use Rattle.line_merger.specs.declared.offers.Taken.{Taken}

-- the actor has kept a record of these bytes, or not; there is no fault but want of memory, unless there is no such actor
abbrev pub Finds : ExactWorld → Actor → List ℕ → Result Bool StepFault → Type 0
Finds w who found (Ok old) = (old ≡ true → kept_record who (part w who) ≡ Some found) × (old ≡ false → kept_record who (part w who) ≢ Some found)
Finds w who found (Err f) = (f ≡ step.Memory) ⊎ (IsRefused w who (own.Life who found) × (f ≡ step.UnknownActor) × (kept_record who (part w who) ≡ None))

-- the actor fell, or it was down and nothing changed
abbrev pub Fell : ExactWorld → Actor → Bool → ExactWorld → Type 0
Fell w who true u = (done : Effect) × Takes w (event.Fall who) done u
Fell w who false u = (u ≡ w) × IsDown (part w who)

-- whether the actor fell by a step: not if it was down
abbrev pub fallen : Result Effect StepFault → Result Bool StepFault
fallen (Ok done) = Ok true
fallen (Err step.Down) = Ok false
fallen (Err step.UnknownActor) = Err step.UnknownActor
fallen (Err step.Up) = Err step.Up
fallen (Err step.WrongPhase) = Err step.WrongPhase
fallen (Err step.NotStored) = Err step.NotStored
fallen (Err step.NothingToSay) = Err step.NothingToSay
fallen (Err step.NoSuchMessage) = Err step.NoSuchMessage
fallen (Err step.NotAddressed) = Err step.NotAddressed
fallen (Err step.NoQuorum) = Err step.NoQuorum
fallen (Err step.AttemptsSpent) = Err step.AttemptsSpent
fallen (Err step.NothingTried) = Err step.NothingTried
fallen (Err step.SentListFull) = Err step.SentListFull
fallen (Err step.Memory) = Err step.Memory
fallen (Err step.NoSuchPlace) = Err step.NoSuchPlace

abbrev pub Falls : ExactWorld → Actor → Result Bool StepFault → ExactWorld → Type 0
Falls w who (Ok fell) u = Fell w who fell u
Falls w who (Err f) u = (f ≡ step.Memory) ⊎ (((found : List ℕ) → IsRefused w who (own.Life who found)) × (f ≡ step.UnknownActor) × (kept_record who (part w who) ≡ None) × (u ≡ w))

abbrev pub age_if : Bool → Age
age_if old = if old then Old else New

-- what comes of a rise with what was tried, by whether it is what was found
abbrev pub settled : Taken → Result Bool StepFault → Result Offer MergeFault
settled t (Ok true) = Ok (offer.Took t)
settled t (Ok false) = Ok (offer.Refused refusal.OtherRecord)
settled t (Err f) = Err fault.Memory
