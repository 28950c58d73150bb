-- What a world is opened from, and what it then is.
use Rattle.std.specs.Prelude.{◌≡◌, ℕ, ◌≤◌, List, length}
use Rattle.std.specs.List.{AllByRecursion}
use Rattle.lock_messages.specs.declared.ids.TheConstants.{MAX_NODES, MAX_CLIENTS}
use Rattle.lock_model.specs.Ballots.{Ballot}
use Rattle.stable_record.specs.declared.node_records.NodeRecord.{NodeRecord}
use Rattle.stable_record.specs.Records.{IsNodeRecord}
use Rattle.world_model.specs.declared.exact.ExactWorld.{ExactWorld}
use Rattle.world_model.specs.Openings.{resumed, IsResumable}
use Rattle.world_opening.specs.Openings.{AreRecords, AreAttempts, stations_in}

-- The world in which each actor is down, with what its record spells: these are the records of nodes and
-- of clients. Each node's problem is its record's.
pub record IsResumed (b : List Ballot) (nodes clients : List (List ℕ)) (w : ExactWorld) : Type 0 where
  pub records : List NodeRecord
  pub attempts : List ℕ
  pub nodes_keep : AreRecords nodes records
  pub clients_keep : AreAttempts clients attempts
  pub world : w ≡ resumed b (stations_in records) attempts

-- A world can be opened from these records and attempts: the records can be kept and read again.
pub record CanOpen (b : List Ballot) (records : List NodeRecord) (attempts : List ℕ) : Type 0 where
  pub good : AllByRecursion IsNodeRecord records
  pub few_nodes : length records ≤ MAX_NODES
  pub few_clients : length attempts ≤ MAX_CLIENTS
  pub resumable : IsResumable b (stations_in records) attempts
