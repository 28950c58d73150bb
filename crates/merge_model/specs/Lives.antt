-- The lives of an actor. A life is what one process logged, from its start to its end. Between two lives the actor fell,
-- and rose with what the later process found in its record.
use Rattle.std.specs.Prelude.{◌≡◌, ◌≢◌, ℕ, List, [], ◌∷◌, ◌++◌, Option, Some, None}
use Rattle.std.specs.Option.{option_map}
use Rattle.lock_messages.specs.declared.ids.Actor.{Actor}
use Rattle.lock_messages.specs.declared.ids.Actor.TheVariants as actor
use Rattle.lock_model.specs.Ballots.{Ballot}
use Rattle.stable_record.specs.Records.{client_record_of, record_bytes}
use Rattle.world_model.specs.declared.events.Age.TheVariants.{Old, New}
use Rattle.world_model.specs.declared.events.Effect.{Effect}
use Rattle.world_model.specs.declared.events.Effect.TheVariants as effect
use Rattle.world_model.specs.declared.events.Event.{Event}
use Rattle.world_model.specs.declared.events.Event.TheVariants as event
use Rattle.world_model.specs.declared.exact.ExactNodePhase.TheVariants as node
use Rattle.world_model.specs.declared.exact.ExactClientPhase.TheVariants as client
use Rattle.world_model.specs.Locality.{local_part}
use Rattle.world_model.specs.Parts.{Part, NoPart, NodePart, ClientPart}
use Rattle.merge_model.specs.OwnRuns.{IsOwnRun}

-- a life: the bytes that the process found in its record, and the events that it logged after its rise
pub record Life : Type 0 where
  pub found : List ℕ
  pub events : List (Event × Effect)

-- the record of what an actor has kept, and of what it is trying to keep
abbrev pub kept_record : Actor → Part → Option (List ℕ)
kept_record (actor.Node n) NoPart = None
kept_record (actor.Node n) (NodePart v) = Some (record_bytes v.kept.problem v.kept.entries)
kept_record (actor.Node n) (ClientPart k) = None
kept_record (actor.Client c) NoPart = None
kept_record (actor.Client c) (NodePart v) = None
kept_record (actor.Client c) (ClientPart k) = Some (client_record_of k.kept)

abbrev pub tried_record : Actor → Part → Option (List ℕ)
tried_record (actor.Node n) NoPart = None
tried_record (actor.Node n) (NodePart v) = option_map (λ s. record_bytes s.problem s.entries) v.tried
tried_record (actor.Node n) (ClientPart k) = None
tried_record (actor.Client c) NoPart = None
tried_record (actor.Client c) (NodePart v) = None
tried_record (actor.Client c) (ClientPart k) = option_map client_record_of k.tried

-- the actor is down
abbrev pub IsDown : Part → Type 0
IsDown NoPart = ⊥
IsDown (NodePart v) = v.phase ≡ node.Down
IsDown (ClientPart k) = k.phase ≡ client.Down

-- The rise of an actor that finds these bytes: old if they are what it has kept, else new if they are what it tried to
-- keep. If they are neither, there is no rise.
pub data IsRise (who : Actor) (p : Part) (found : List ℕ) : Event → Type 0 where
  rises_old : kept_record who p ≡ Some found → IsRise who p found (event.Rise who Old)
  rises_new : kept_record who p ≢ Some found → tried_record who p ≡ Some found → IsRise who p found (event.Rise who New)

-- What happens before a life: the actor falls unless it is down, and rises.
pub data Restarts (who : Actor) (p : Part) (found : List ℕ) : List (Event × Effect) → Type 0 where
  only_rises : (rise : Event) → IsDown p → IsRise who p found rise → Restarts who p found ((rise, effect.Up) ∷ [])
  falls_first : (rise : Event) → (IsDown p → ⊥) → IsRise who p found rise → Restarts who p found ((event.Fall who, effect.Down) ∷ (rise, effect.Up) ∷ [])

-- The lives of an actor tell this log, from a part on: each life begins with a restart, and is an own run from there.
abbrev pub TellsLives : List Ballot → Actor → Part → List Life → List (Event × Effect) → Type 0
TellsLives b who p [] log = log ≡ []
TellsLives b who p (life ∷ lives) log =
    (restart : List (Event × Effect)) × (rest : List (Event × Effect)) × Restarts who p life.found restart × IsOwnRun b who (local_part b p restart) life.events ×
    TellsLives b who (local_part b (local_part b p restart) life.events) lives rest × (log ≡ restart ++ (life.events ++ rest))
