-- What keeping a record and rising with it come to.
use Rattle.std.specs.Prelude.{◌≡◌, ◌⊎◌, ℕ, ◌+◌, Bool, true, false}
use Rattle.lock_messages.specs.declared.ids.Actor.{Actor}
use Rattle.world_model.specs.declared.events.Effect.TheVariants as effect
use Rattle.world_model.specs.declared.events.Event.TheVariants as event
use Rattle.event_recorders.specs.declared.faults.RunFault.{RunFault}
use Rattle.event_recorders.specs.declared.faults.RunFault.TheVariants as fault
use Rattle.event_recorders.specs.OwnLogs.{OwnLog, IsAdded}
use Rattle.actor_steps.specs.declared.reopening.TheConstants.{MAX_REOPENS}
use Rattle.actor_steps.specs.Steps.{HasFailed, IsKeepingFault, IsRiseFault}
use Rattle.actor_steps.specs.Endings.{falls_of, EndsFrom}

-- The actor has tried to keep its next record, and the device failed in this call, or its count stands at the greatest.
pub record FailsNext (who : Actor) (l l' : OwnLog) (before now : ℕ) : Type 0 where
  pub tried : IsAdded l (event.Try who) effect.Tried l'
  pub counted : HasFailed 1 before now

-- Keeping ended by this fault, of which the log and the record show the cause. The log has nothing new but, perhaps, that the
-- actor tried. The record is not stuck, and was spent before if the fault says so.
pub record EndsKeeping (f : RunFault) (who : Actor) (l l' : OwnLog) (stuck spent spent' : Bool) (before now : ℕ) : Type 0 where
  pub which : IsKeepingFault f
  pub log : (l' ≡ l) ⊎ IsAdded l (event.Try who) effect.Tried l'
  pub was_spent : f ≡ fault.Spent → spent ≡ true
  pub free : stuck ≡ false
  pub cause : EndsFrom f (falls_of l) l' stuck spent' before now

-- Rising for the first time ended by this fault, of which the log and the record show the cause. The log has nothing new. As many
-- reopens have failed as there may be, if the fault says so.
pub record EndsRising (f : RunFault) (l l' : OwnLog) (stuck spent : Bool) (before now : ℕ) : Type 0 where
  pub which : IsRiseFault f
  pub log : l' ≡ l
  pub failed : f ≡ fault.NotReopened → HasFailed MAX_REOPENS before now
  pub cause : EndsFrom f (falls_of l) l' stuck spent before now

-- Rising anew ended by this fault, in the same way, but the log may have that the actor fell.
pub record EndsRisingAgain (f : RunFault) (who : Actor) (l l' : OwnLog) (stuck spent : Bool) (before now : ℕ) : Type 0 where
  pub which : IsRiseFault f
  pub log : (l' ≡ l) ⊎ IsAdded l (event.Fall who) effect.Down l'
  pub failed : f ≡ fault.NotReopened → HasFailed MAX_REOPENS before now
  pub cause : EndsFrom f (falls_of l + 1) l' stuck spent before now
