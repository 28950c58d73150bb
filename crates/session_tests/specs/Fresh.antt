-- A world of one node in which nothing has happened, and the own logs of its clients.
use Rattle.std.specs.Prelude.{◌≡◌, ℕ, List, [], ◌∷◌}
use Rattle.lock_messages.specs.declared.ids.Actor.TheVariants as actor
use Rattle.lock_model.specs.declared.problems.Problem.TheVariants.{First}
use Rattle.lock_model.specs.Ballots.{Ballot}
use Rattle.world_model.specs.declared.exact.ExactWorld.{ExactWorld}
use Rattle.world_model.specs.Openings.{opening, down_client}
use Rattle.world_model.specs.Parts.{ClientPart}
use Rattle.event_recorders.specs.OwnLogs.{OwnLog}

-- one ballot, of one node, whose vote is enough
abbrev pub one_node : List Ballot
one_node = record { votes = 1 ∷ []; read = 1; write = 1 } ∷ []

-- a world of that node and of two clients, in which nothing has happened
abbrev pub one_node_world : List Ballot → ExactWorld
one_node_world b = opening b (First ∷ []) 2

-- the log of this client, which has logged nothing, and has made no attempt
abbrev pub IsNew : ℕ → List Ballot → OwnLog → Type 0
IsNew c b l = l ≡ record { actor = actor.Client c; ballots = b; opening = ClientPart (down_client 0); events = [] }
