-- What comes of a line of an actor's own journal.
use Rattle.std.specs.Prelude.{◌≡◌, true, false, List, [], ◌∷◌, map, Option, Some, None, Result, Ok, Err}
use Rattle.lock_messages.specs.declared.ids.Actor.{Actor}
use Rattle.world_model.specs.declared.events.Effect.{Effect}
use Rattle.world_model.specs.declared.events.Event.{Event}
use Rattle.world_model.specs.declared.events.Event.TheVariants as event
use Rattle.world_model.specs.declared.events.StepFault.{StepFault}
use Rattle.world_model.specs.declared.events.StepFault.TheVariants as step
use Rattle.world_model.specs.declared.exact.ExactWorld.{ExactWorld}
use Rattle.world_model.specs.Locality.{IsHistory}
use Rattle.world_model.specs.Parts.{part}
use Rattle.own_journals.specs.declared.lines.OwnLine.{OwnLine}
use Rattle.own_journals.specs.declared.lines.OwnLine.TheVariants as own
use Rattle.journal_merge.specs.LineMerges.{TellsLine, IsRefused, IsWaiting}
use Rattle.line_merger.specs.declared.offers.MergeFault.{MergeFault}
use Rattle.line_merger.specs.declared.offers.MergeFault.TheVariants as fault
use Rattle.line_merger.specs.declared.offers.Offer.{Offer}
use Rattle.line_merger.specs.declared.offers.Offer.TheVariants as offer
use Rattle.line_merger.specs.declared.offers.Refusal.TheVariants as refusal
use Rattle.line_merger.specs.declared.offers.Taken.{Taken}
use Rattle.line_merger.specs.declared.offers.Taken.TheVariants as taken
use Rattle.line_merger.specs.Reasons.{reading_by, IsReason, IsUnsaid, IsAttempted}

-- the event that a line says: a line that reads a message or begins a life says none
abbrev pub said_in : OwnLine → List Event
said_in (own.Does e) = e ∷ []
said_in (own.Reads who frame) = []
said_in (own.Life who found) = []

-- the events by which a line of the actor was taken
abbrev pub events_of : Actor → OwnLine → Taken → List Event
events_of who line taken.Said = said_in line
events_of who line (taken.Read number) = reading_by who number ∷ []
events_of who line (taken.Rose true age) = event.Fall who ∷ event.Rise who age ∷ []
events_of who line (taken.Rose false age) = event.Rise who age ∷ []

-- What came of a line of the actor is right: what it says happened, by these events, or nobody said yet what it reads and nothing
-- changed, or it says nothing that the actor could do, for this reason, and the actor changed by an attempt at most.
abbrev pub TakesLine : ExactWorld → Actor → OwnLine → Result Offer MergeFault → ExactWorld → Type 0
TakesLine w who line (Ok (offer.Took taken)) v =
    (events : List (Event × Effect)) × TellsLine w.ballots who (part w who) line events × IsHistory w events v × (map (λ q. q.0) events ≡ events_of who line taken)
TakesLine w who line (Ok offer.Waits) v = (v ≡ w) × IsWaiting w who line × IsUnsaid w.sent line
TakesLine w who line (Ok (offer.Refused why)) v = IsRefused w who line × IsReason w.ballots who (part w who) line why × IsAttempted who w v
TakesLine w who line (Err f) v = Unit {0}

-- the line was not refused
abbrev pub GoesOn : Offer → Type 0
GoesOn (offer.Took t) = Unit {0}
GoesOn offer.Waits = Unit {0}
GoesOn (offer.Refused why) = ⊥

-- what comes of a refused step: a full list and want of memory say nothing of the line
abbrev pub refused : StepFault → Result Offer MergeFault
refused step.SentListFull = Err fault.Full
refused step.Memory = Err fault.Memory
refused step.UnknownActor = Ok (offer.Refused (refusal.Step step.UnknownActor))
refused step.Down = Ok (offer.Refused (refusal.Step step.Down))
refused step.Up = Ok (offer.Refused (refusal.Step step.Up))
refused step.WrongPhase = Ok (offer.Refused (refusal.Step step.WrongPhase))
refused step.NotStored = Ok (offer.Refused (refusal.Step step.NotStored))
refused step.NothingToSay = Ok (offer.Refused (refusal.Step step.NothingToSay))
refused step.NoSuchMessage = Ok (offer.Refused (refusal.Step step.NoSuchMessage))
refused step.NotAddressed = Ok (offer.Refused (refusal.Step step.NotAddressed))
refused step.NoQuorum = Ok (offer.Refused (refusal.Step step.NoQuorum))
refused step.AttemptsSpent = Ok (offer.Refused (refusal.Step step.AttemptsSpent))
refused step.NothingTried = Ok (offer.Refused (refusal.Step step.NothingTried))
refused step.NoSuchPlace = Ok (offer.Refused (refusal.Step step.NoSuchPlace))

-- what comes of the last step of these events
abbrev pub offered : Taken → Result Effect StepFault → Result Offer MergeFault
offered t (Ok done) = Ok (offer.Took t)
offered t (Err f) = refused f

-- what comes of a line that is only tried, by what came of taking it
abbrev pub tried : Result Offer MergeFault → Result (Option Offer) MergeFault
tried (Ok o) = Ok (Some o)
tried (Err f) = Err f

-- What came of a line of the actor that was tried is right: nothing is said and nothing changed, or it is as if it was taken.
abbrev pub TriesLine : ExactWorld → Actor → OwnLine → Result (Option Offer) MergeFault → ExactWorld → Type 0
TriesLine w who line (Ok None) v = v ≡ w
TriesLine w who line (Ok (Some o)) v = TakesLine w who line (Ok o) v
TriesLine w who line (Err f) v = Unit {0}

-- a line that was tried was not refused
abbrev pub TryGoesOn : Option Offer → Type 0
TryGoesOn None = Unit {0}
TryGoesOn (Some o) = GoesOn o
