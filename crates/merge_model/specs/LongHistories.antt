-- Histories of any length, with any number of messages. A history of the exact world ends if its list of messages is
-- full. These don't, because only the set of what was said counts.
use Rattle.std.specs.Prelude.{◌≡◌, List, [], ◌∷◌}
use Rattle.world_model.specs.declared.events.Effect.{Effect}
use Rattle.world_model.specs.declared.events.Event.{Event}
use Rattle.world_model.specs.declared.exact.ExactWorld.{ExactWorld}
use Rattle.world_model.specs.ExactWorlds.{actor_of}
use Rattle.world_model.specs.Parts.{part}
use Rattle.world_model.specs.Locality.{ChangesOne}
use Rattle.merge_model.specs.OwnRuns.{IsTurn}
use Rattle.merge_model.specs.Merging.{HasSource}

-- The event is a turn of its actor, what it reads was said, and it changes nothing but the actor's part and what was said.
pub record Comes (w : ExactWorld) (q : Event × Effect) (v : ExactWorld) : Type 0 where
  pub turn : IsTurn w.ballots (part w (actor_of q.0)) q.0 q.1
  pub source : HasSource w.sent q.1
  pub change : ChangesOne w q.0 q.1 v

-- A history that is as long as it likes: each event comes after the ones before it.
abbrev pub IsLongHistory : ExactWorld → List (Event × Effect) → ExactWorld → Type 0
IsLongHistory w [] v = v ≡ w
IsLongHistory w (q ∷ told) v = (u : ExactWorld) × Comes w q u × IsLongHistory u told v
