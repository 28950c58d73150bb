-- The ballots of two nodes, and the own log of a node in a world in which nothing has happened.
use Rattle.std.specs.Prelude.{◌≡◌, List, [], ◌∷◌}
use Rattle.lock_messages.specs.declared.ids.Actor.TheVariants as actor
use Rattle.lock_model.specs.declared.problems.Problem.{Problem}
use Rattle.lock_model.specs.Ballots.{Ballot}
use Rattle.world_model.specs.Openings.{down_node, empty_station}
use Rattle.world_model.specs.Parts.{NodePart}
use Rattle.event_recorders.specs.OwnLogs.{OwnLog}

-- one ballot, of two nodes with a vote each; one votes to read, and two to write
abbrev pub two_nodes : List Ballot
two_nodes = record { votes = 1 ∷ 1 ∷ []; read = 1; write = 2 } ∷ []

-- the log of n1, which has logged nothing, and has kept nothing yet in a world for this problem
pub record IsNewNode (p : Problem) (l : OwnLog) : Type 0 where
  pub actor : l.actor ≡ actor.Node 1
  pub opening : l.opening ≡ NodePart (down_node (empty_station p))
  pub events : l.events ≡ []
