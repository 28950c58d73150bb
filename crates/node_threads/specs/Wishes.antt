-- What the clients of a run did of what they were wished, as its history tells it.
use Rattle.std.specs.Prelude.{◌≡◌, ℕ, ◌≤◌, List, length}
use Rattle.lock_messages.specs.declared.ids.Actor.{Actor}
use Rattle.lock_messages.specs.declared.ids.Actor.TheVariants as actor
use Rattle.lock_model.specs.Decisions.{Among}
use Rattle.world_model.specs.declared.events.Effect.{Effect}
use Rattle.world_model.specs.declared.events.Event.{Event}
use Rattle.world_model.specs.declared.exact.ExactWorld.{ExactWorld}
use Rattle.world_model.specs.Locality.{own_events}
use Rattle.world_model.specs.Parts.{part}
use Rattle.event_lines.specs.declared.wishes.Wish.{Wish}
use Rattle.event_recorders.specs.declared.faults.RunFault.{RunFault}
use Rattle.event_recorders.specs.OwnLogs.{OwnLog, part_now}
use Rattle.client_loop.specs.Endings.{IsOutside}
use Rattle.client_loop.specs.Visits.{HasBegun, HasEntered, HasSoftened}
use Rattle.node_threads.specs.Tasks.{own_wishes}

-- an actor's own log of a history from this world
abbrev pub log_in : ExactWorld → List (Event × Effect) → Actor → OwnLog
log_in w history who = record { actor = who; ballots = w.ballots; opening = part w who; events = own_events who history }

-- By its own events in the history the client has begun nothing but its own wishes among these, and entered
-- so many of them, each once and in order. Unless it is among those that ended by a fault, it entered all of
-- them, softened just those that say so, and is outside at the end.
pub record DidAsWished (w : ExactWorld) (history : List (Event × Effect)) (wishes : List Wish) (faults : List (Actor × RunFault)) (c : ℕ) : Type 0 where
  pub entered : ℕ
  pub begun : HasBegun (actor.Client c) (own_wishes c wishes) (log_in w history (actor.Client c))
  pub entries : HasEntered (own_wishes c wishes) entered (log_in w history (actor.Client c))
  pub all : ((f : RunFault) → Among (actor.Client c, f) faults → ⊥) → entered ≡ length (own_wishes c wishes)
  pub softened : ((f : RunFault) → Among (actor.Client c, f) faults → ⊥) → HasSoftened (own_wishes c wishes) entered (log_in w history (actor.Client c))
  pub outside : ((f : RunFault) → Among (actor.Client c, f) faults → ⊥) → IsOutside (part_now (log_in w history (actor.Client c)))

-- so did each client of the world
abbrev pub AllDidAsWished : ExactWorld → List (Event × Effect) → List Wish → List (Actor × RunFault) → Type 0
AllDidAsWished w history wishes faults = (c : ℕ) → 1 ≤ c → c ≤ length w.clients → DidAsWished w history wishes faults c
