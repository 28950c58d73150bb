-- What each world keeps, whatever has happened in it.
use Rattle.std.specs.Prelude.{◌≤◌, length, All}
use Rattle.lock_messages.specs.declared.ids.TheConstants.{MAX_NODES, MAX_CLIENTS}
use Rattle.stable_record.specs.declared.node_records.NodeRecord.{NodeRecord}
use Rattle.stable_record.specs.Records.{IsNodeRecord}
use Rattle.world_model.specs.declared.exact.ExactStation.{ExactStation}
use Rattle.world_model.specs.declared.exact.ExactWorld.{ExactWorld}

-- the record of a station
abbrev pub record_in : ExactStation → NodeRecord
record_in s = record { problem = s.problem; entries = s.entries }

-- What each node has kept is a record that is read again as it was written, and there are no more nodes
-- and clients than have numbers.
pub record KeepsRecords (w : ExactWorld) : Type 0 where
  pub nodes : All (λ v. IsNodeRecord (record_in v.kept)) w.nodes
  pub few_nodes : length w.nodes ≤ MAX_NODES
  pub few_clients : length w.clients ≤ MAX_CLIENTS
