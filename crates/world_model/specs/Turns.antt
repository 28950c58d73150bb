-- An actor's turn in an event: what the actor does by itself, before the list of messages has a say.
use Rattle.std.specs.Prelude.{ℕ, Bool, List, Result, Ok}
use Rattle.lock_messages.specs.declared.messages.Message.{Message}
use Rattle.world_model.specs.declared.events.Effect.{Effect}
use Rattle.world_model.specs.declared.events.StepFault.{StepFault}

-- What an actor (A is its part of the world) does in its turn. The part after, what is said and the
-- effect are told by the part before alone; only a message that is read, and the number that the next
-- message gets, come from the list of messages.
pub data Turn (A : Type 0) : Type 0 where
  -- it does something by itself
  Acts : (after : A) (effect : Effect) → Turn A
  -- it says these messages; the effect is by the number of the first
  Speaks : (after : A) (says : List Message) (effect : ℕ → Effect) → Turn A
  -- it reads the message of this number, which has to be one for it; the rest is by that message
  Reads : (number : ℕ) (is_mine : Message → Bool) (after : Message → A) (effect : Message → Effect) → Turn A

-- the turn, or what the actor's own part refuses
abbrev pub Turns : Type 0 → Type 0
Turns A = Result (Turn A) StepFault

abbrev pub acts : {A : Type 0} → A → Effect → Turns A
acts after effect = Ok (Acts after effect)

abbrev pub speaks : {A : Type 0} → A → List Message → (ℕ → Effect) → Turns A
speaks after says effect = Ok (Speaks after says effect)

abbrev pub reads : {A : Type 0} → ℕ → (Message → Bool) → (Message → A) → (Message → Effect) → Turns A
reads number is_mine after effect = Ok (Reads number is_mine after effect)
