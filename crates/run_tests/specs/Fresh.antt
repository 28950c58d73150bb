-- The own logs of actors of a new book, under problem 1.
use Rattle.std.specs.Prelude.{ℕ, List, []}
use Rattle.lock_messages.specs.declared.ids.Actor.TheVariants as actor
use Rattle.lock_model.specs.Ballots.{Ballot}
use Rattle.lock_model.specs.declared.problems.Problem.TheVariants.{First}
use Rattle.world_model.specs.Openings.{down_node, down_client, empty_station}
use Rattle.world_model.specs.Parts.{NodePart, ClientPart}
use Rattle.event_recorders.specs.OwnLogs.{OwnLog}

-- the log of a node that has logged nothing, and has kept nothing yet
abbrev pub node_log : List Ballot → ℕ → OwnLog
node_log b n = record { actor = actor.Node n; ballots = b; opening = NodePart (down_node (empty_station First)); events = [] }

-- the log of a client that has logged nothing, and has made no attempt yet
abbrev pub client_log : List Ballot → ℕ → OwnLog
client_log b c = record { actor = actor.Client c; ballots = b; opening = ClientPart (down_client 0); events = [] }
