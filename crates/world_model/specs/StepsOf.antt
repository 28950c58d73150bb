-- What a call that takes a step, or a run of them, has done.
use Rattle.std.specs.Prelude.{◌≡◌, ℕ, ◌⊎◌, Bool, true, false, IsOk, Result, Ok, Err, Some, None, List, length, take, slice_get}
use Rattle.lock_messages.specs.declared.ids.Actor.TheVariants as actor
use Rattle.world_model.specs.declared.events.Effect.{Effect}
use Rattle.world_model.specs.declared.events.Event.{Event}
use Rattle.world_model.specs.declared.events.Event.TheVariants as event
use Rattle.world_model.specs.declared.events.StepFault.{StepFault}
use Rattle.world_model.specs.declared.events.StepFault.TheVariants as fault
use Rattle.world_model.specs.declared.exact.ExactWorld.{ExactWorld}
use Rattle.world_model.specs.ExactWorlds.{Steps, Ran, ran, step}

-- The events for which memory is asked: a message is taken, or sent, a node's record is written or read, or
-- it takes a problem. A client asks for some only where it speaks.
abbrev pub asks_for_memory : Event → Bool
asks_for_memory (event.Take n number) = true
asks_for_memory (event.Say n) = true
asks_for_memory (event.SayTo c n) = true
asks_for_memory (event.Try (actor.Node n)) = true
asks_for_memory (event.Rise (actor.Node n) age) = true
asks_for_memory (event.Switch n p) = true
asks_for_memory (event.Begin c m x place) = false
asks_for_memory (event.Try (actor.Client c)) = false
asks_for_memory (event.Kept who) = false
asks_for_memory (event.Hear c k) = false
asks_for_memory (event.Enter c) = false
asks_for_memory (event.Leave c) = false
asks_for_memory (event.Soften c) = false
asks_for_memory (event.Fall who) = false
asks_for_memory (event.Rise (actor.Client c) age) = false

-- The event is refused so; or memory was refused to one that asks for it, and nothing else comes in its
-- way: the step would be taken.
abbrev pub IsRefused : Event → Steps → StepFault → Type 0
IsRefused e steps f = (steps ≡ Err f) ⊎ ((f ≡ fault.Memory) × (asks_for_memory e ≡ true) × IsOk steps)

-- The call took the step: on Ok the world after and the effect are the step's; on a fault the step is
-- refused so, and the world is as it was.
abbrev pub Does : Event → Steps → ExactWorld → Result Effect StepFault → ExactWorld → Type 0
Does e steps before (Ok done) after = steps ≡ Ok (record { world = after; effect = done })
Does e steps before (Err f) after = IsRefused e steps f × (after ≡ before)

-- a run in which so many events were taken, and none refused
abbrev pub took : ℕ → ExactWorld → Ran
took k w = record { taken = k; world = w; refused = None }

-- The call took the events in order: on Ok all of them; on a fault those before the one that is
-- refused so in the world after them, or for which memory was refused.
abbrev pub Runs : List Event → ExactWorld → Result ℕ (ℕ × StepFault) → ExactWorld → Type 0
Runs events before (Ok k) after = (k ≡ length events) × (ran events before ≡ took k after)
Runs events before (Err r) after = (e : Event) × (slice_get events r.0 ≡ Some e) × (ran (take r.0 events) before ≡ took r.0 after) × IsRefused e (step after e) r.1
