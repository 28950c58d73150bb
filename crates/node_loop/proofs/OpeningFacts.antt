-- An own log that goes on was opened as it was.
use Rattle.std.proofs.Common.{◌≡◌, ◌⊎◌, inl, inr, ap}
use Rattle.lock_messages.specs.declared.ids.Actor.{Actor}
use Rattle.lock_messages.specs.declared.messages.Message.{Message}
use Rattle.world_model.specs.declared.events.Age.{Age}
use Rattle.world_model.specs.declared.events.Effect.{Effect}
use Rattle.world_model.specs.declared.events.Event.{Event}
use Rattle.event_recorders.specs.OwnLogs.{OwnLog, IsAdded}
use Rattle.actor_steps.specs.Steps.{HasRead, IsKept, IsRisenAgain}
use Rattle.actor_steps.proofs.FindingFacts.{part_own}
use Rattle.node_loop.specs.Standing.{as_opened}

pub added_opening : (l l' : OwnLog) (e : Event) (done : Effect) → IsAdded l e done l' → as_opened l' ≡ as_opened l
added_opening l l' e done added = ap as_opened added.log

-- perhaps there was no event
pub perhaps_opening : (l l' : OwnLog) (e : Event) (done : Effect) → (l' ≡ l) ⊎ IsAdded l e done l' → as_opened l' ≡ as_opened l
perhaps_opening l l' e done (inl same) = ap as_opened same
perhaps_opening l l' e done (inr added) = added_opening l l' e done added

pub read_opening : (l l' : OwnLog) (e : Event) (m : Message) → HasRead l e m l' → as_opened l' ≡ as_opened l
read_opening l l' e m read = added_opening l l' e read.done read.added

pub kept_opening : (l l' : OwnLog) (who : Actor) → IsKept l who l' → as_opened l' ≡ as_opened l
kept_opening l l' who kept = ap as_opened kept.kept.log

pub risen_opening : (l l' : OwnLog) (who : Actor) (age : Age) → IsRisenAgain l who age l' → as_opened l' ≡ as_opened l
risen_opening l l' who age risen = ap as_opened risen.risen.log

-- what a step keeps of a node that stays up
pub ruleset staying_up = (added_opening, read_opening, part_own)
