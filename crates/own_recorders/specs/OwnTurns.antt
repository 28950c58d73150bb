-- The turns of an actor that is stepped by its own events alone.
use Rattle.std.specs.Prelude.{◌≡◌, true, false, List, Option, Some, None}
use Rattle.lock_messages.specs.declared.ids.Actor.{Actor}
use Rattle.lock_messages.specs.declared.messages.Message.{Message}
use Rattle.lock_messages.specs.Messages.{is_for}
use Rattle.lock_model.specs.Ballots.{Ballot}
use Rattle.world_model.specs.declared.events.Effect.{Effect}
use Rattle.world_model.specs.declared.events.Event.{Event}
use Rattle.world_model.specs.Locality.{IsEffectOf}
use Rattle.world_model.specs.Parts.{Part, after_own, message_of}
use Rattle.event_recorders.specs.OwnLogs.{reads}
use Rattle.merge_model.specs.OwnRuns.{IsTurn}

-- The event comes with a message exactly if it reads one. The message is for the actor.
abbrev pub ComesWith : Actor → Event → Option Message → Type 0
ComesWith who e None = reads e ≡ false
ComesWith who e (Some m) = (reads e ≡ true) × (is_for who m ≡ true)

-- The actor's part took the turn: the effect is one that the turn has, and carries the message that was read.
pub record HasTurned (b : List Ballot) (p : Part) (e : Event) (read : Option Message) (done : Effect) (p' : Part) : Type 0 where
  pub kind : IsEffectOf e done
  pub turn : IsTurn b p e done
  pub message : message_of done ≡ read
  pub part : p' ≡ after_own b e done p
