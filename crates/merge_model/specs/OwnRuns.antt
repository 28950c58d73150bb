-- An actor's own run: what its own part of the world allows, seen alone. It has no list of messages, and numbers mean
-- nothing in it: a message that is taken or heard is the one that the effect carries.
use Rattle.std.specs.Prelude.{◌≡◌, ℕ, true, List, [], ◌∷◌, Ok, Err}
use Rattle.lock_messages.specs.declared.ids.Actor.{Actor}
use Rattle.lock_messages.specs.declared.messages.Message.{Message}
use Rattle.lock_model.specs.Ballots.{Ballot}
use Rattle.world_model.specs.declared.events.Effect.{Effect}
use Rattle.world_model.specs.declared.events.Event.{Event}
use Rattle.world_model.specs.Turns.{Acts, Speaks, Reads, Turns}
use Rattle.world_model.specs.ExactWorlds.{Deed, NodeDoes, ClientDoes, deed_of}
use Rattle.world_model.specs.Parts.{Part, NoPart, NodePart, ClientPart, is_own, after_own}

-- The turn may have this effect: whatever number its messages get, and whichever message for the actor it reads.
abbrev pub HasEffect : {A : Type 0} → Turns A → Effect → Type 0
HasEffect (Err e) done = ⊥
HasEffect (Ok (Acts after effect)) done = done ≡ effect
HasEffect (Ok (Speaks after says effect)) done = (first : ℕ) × (done ≡ effect first)
HasEffect (Ok (Reads number is_mine after effect)) done = (m : Message) × (is_mine m ≡ true) × (done ≡ effect m)

abbrev pub HasEffectIn : List Ballot → Deed → Part → Effect → Type 0
HasEffectIn b deed NoPart done = ⊥
HasEffectIn b (NodeDoes n turn) (NodePart v) done = HasEffect (turn v) done
HasEffectIn b (NodeDoes n turn) (ClientPart k) done = ⊥
HasEffectIn b (ClientDoes c turn) (NodePart v) done = ⊥
HasEffectIn b (ClientDoes c turn) (ClientPart k) done = HasEffect (turn b k) done

-- In this part of its actor the event is a turn that may have this effect.
abbrev pub IsTurn : List Ballot → Part → Event → Effect → Type 0
IsTurn b p e done = HasEffectIn b (deed_of e) p done

-- An own run from a part on: each event is the actor's own, and a turn in the part that the events before it left.
abbrev pub IsOwnRun : List Ballot → Actor → Part → List (Event × Effect) → Type 0
IsOwnRun b who p [] = Unit {0}
IsOwnRun b who p (q ∷ own) = (is_own who q.0 ≡ true) × IsTurn b p q.0 q.1 × IsOwnRun b who (after_own b q.0 q.1 p) own
