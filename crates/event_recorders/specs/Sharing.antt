-- What a recorder over a log that actors share is told of others: whether two are inside one resource, and who is
-- inside.
use Rattle.std.specs.Prelude.{◌≡◌, ℕ, Bool, true, List}
use Rattle.lock_messages.specs.declared.tickets.Ticket.{Ticket}
use Rattle.world_model.specs.declared.events.Effect.{Effect}
use Rattle.world_model.specs.declared.events.Event.{Event}
use Rattle.world_model.specs.declared.exact.ExactWorld.{ExactWorld}
use Rattle.world_model.specs.Company.{AreThoseInside, are_together, Reads}
use Rattle.world_model.specs.Locality.{own_events, IsHistory}
use Rattle.world_model.specs.Parts.{part}
use Rattle.world_model.specs.Staying.{inside_ticket}
use Rattle.event_recorders.specs.OwnLogs.{OwnLog, part_now}

-- The answer is whether the two own logs leave tickets of two clients for one resource; then both read. Neither log
-- has changed.
pub record HaveMet (answer : Bool) (l m l' m' : OwnLog) : Type 0 where
  pub told : answer ≡ are_together (inside_ticket (part_now l)) (inside_ticket (part_now m))
  pub readers : answer ≡ true → Reads (inside_ticket (part_now l)) × Reads (inside_ticket (part_now m))
  pub one : l' ≡ l
  pub other : m' ≡ m

-- These are the tickets of those who were inside the resource in a world that the one history had come to. The history
-- has of the actor what its own log has, and so has the world; it is one of the log's ballots. The log has not changed.
pub record HasSeenInside (l : OwnLog) (x : List ℕ) (tickets : List Ticket) (l' : OwnLog) : Type 0 where
  pub opening : ExactWorld
  pub history : List (Event × Effect)
  pub world : ExactWorld
  pub run : IsHistory opening history world
  pub ballots : opening.ballots ≡ l.ballots
  pub opened : part opening l.actor ≡ l.opening
  pub events : own_events l.actor history ≡ l.events
  pub own : part world l.actor ≡ part_now l
  pub those : AreThoseInside world x tickets
  pub log : l' ≡ l
