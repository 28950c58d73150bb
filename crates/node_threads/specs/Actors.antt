-- What is handed in for one actor of a run.
use Rattle.std.specs.Prelude.{◌≡◌, ℕ, ◌+◌, ◌≤◌, List, [], ◌∷◌, slice_get, Some}
use Rattle.lock_messages.specs.declared.ids.Actor.TheVariants as actor
use Rattle.lock_messages.specs.declared.ids.TheConstants.{MAX_ATTEMPT}
use Rattle.stable_record.specs.declared.node_records.NodeRecord.{NodeRecord}
use Rattle.stable_record.specs.Records.{IsNodeRecord, node_record_of, client_record_of}
use Rattle.world_model.specs.declared.exact.ExactWorld.{ExactWorld}
use Rattle.world_model.specs.Openings.{down_node, down_client}
use Rattle.world_model.specs.Parts.{NodePart, ClientPart, part}
use Rattle.world_actors.specs.Nodes.{station_in}

-- The world has the node down with nothing tried. What it has kept is a node record, and a restart finds
-- just that.
pub record IsNodeReady (w : ExactWorld) (n : ℕ) (strings : List (List ℕ)) : Type 0 where
  pub kept : NodeRecord
  pub part : part w (actor.Node n) ≡ NodePart (down_node (station_in kept))
  pub good : IsNodeRecord kept
  pub finds : strings ≡ node_record_of kept ∷ []

-- The world has the client down with nothing tried, and a restart finds just the attempt that it has kept.
pub record IsClientReady (w : ExactWorld) (c : ℕ) (strings : List (List ℕ)) : Type 0 where
  pub attempt : ℕ
  pub part : part w (actor.Client c) ≡ ClientPart (down_client attempt)
  pub range : attempt ≤ MAX_ATTEMPT
  pub finds : strings ≡ client_record_of attempt ∷ []

-- Each node from this place on, by what its record finds; and each client. Places are counted from 0.
abbrev pub AreNodesReady : ℕ → ExactWorld → List (List (List ℕ)) → Type 0
AreNodesReady place w found = (i : ℕ) (strings : List (List ℕ)) → slice_get found i ≡ Some strings → IsNodeReady w (i + place + 1) strings

abbrev pub AreClientsReady : ℕ → ExactWorld → List (List (List ℕ)) → Type 0
AreClientsReady place w found = (i : ℕ) (strings : List (List ℕ)) → slice_get found i ≡ Some strings → IsClientReady w (i + place + 1) strings
