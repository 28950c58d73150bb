-- With what the actors of a new service begin.
use Rattle.std.specs.Prelude.{ℕ, List, [], map}
use Rattle.std.specs.List.{range_with_len}
use Rattle.lock_messages.specs.declared.ids.Actor.{Actor}
use Rattle.lock_messages.specs.declared.ids.Actor.TheVariants as actor
use Rattle.lock_model.specs.Ballots.{Ballot}
use Rattle.world_model.specs.Openings.{down_client}
use Rattle.world_model.specs.Parts.{Part, ClientPart}
use Rattle.event_recorders.specs.OwnLogs.{OwnLog}
use Rattle.own_threads.specs.Beginnings.{Beginning, unwritten}

-- the log of an actor before any event
abbrev pub opened_log : Actor → List Ballot → Part → OwnLog
opened_log who b p = record { actor = who; ballots = b; opening = p; events = [] }

-- the log of a client that is down and has made no attempt, before any event
abbrev pub new_client_log : List Ballot → ℕ → OwnLog
new_client_log b c = opened_log (actor.Client c) b (ClientPart (down_client 0))

-- the beginnings of so many such clients without journals, numbered from 1 on
abbrev pub new_clients : List Ballot → ℕ → List Beginning
new_clients b count = map (λ c. unwritten (new_client_log b c)) (range_with_len 1 count)
