-- Opening a world from records: which records fit, and why an opening is refused.
use Rattle.std.specs.Prelude.{◌≡◌, ℕ, ◌<◌, ◌≤◌, false, List, length, map, Option, Some, None}
use Rattle.lock_messages.specs.declared.ids.TheConstants.{MAX_ATTEMPT}
use Rattle.lock_messages.specs.declared.ids.Actor.TheVariants as actor
use Rattle.stable_record.specs.declared.node_records.NodeRecord.{NodeRecord}
use Rattle.stable_record.specs.Records.{IsNodeRecord, node_record_of, client_record_of}
use Rattle.world_model.specs.declared.exact.ExactStation.{ExactStation}
use Rattle.world_model.specs.ExactWorlds.{numbered}
use Rattle.world_model.specs.Openings.{stations_within}
use Rattle.world_opening.specs.declared.faults.OpeningFault.{OpeningFault}
use Rattle.world_opening.specs.declared.faults.OpeningFault.TheVariants as fault

abbrev pub fault_number : OpeningFault → ℕ
fault_number fault.Memory = 613
fault_number fault.EntryAboveAttempt = 621
fault_number (fault.NoRecord who) = 622

-- the bytes are this record
pub record IsRecordOf (bytes : List ℕ) (r : NodeRecord) : Type 0 where
  pub good : IsNodeRecord r
  pub spelled : bytes ≡ node_record_of r

-- the bytes are the record of a client that made this attempt last
pub record IsAttemptOf (bytes : List ℕ) (a : ℕ) : Type 0 where
  pub in_range : a ≤ MAX_ATTEMPT
  pub spelled : bytes ≡ client_record_of a

-- one that is such, or none where there is none
abbrev pub IsFound : {A : Type 0} → (A → Type 0) → Option A → Type 0
IsFound P None = (a : _) → ¬ (P a)
IsFound P (Some a) = P a

-- the record of the node of this number, and that of the client of this number, is this one
pub record NodeFinds (found : List (List ℕ)) (n : ℕ) (r : NodeRecord) : Type 0 where
  pub bytes : List ℕ
  pub finds : numbered found n ≡ Some bytes
  pub reads : IsRecordOf bytes r

pub record ClientFinds (found : List (List ℕ)) (c a : ℕ) : Type 0 where
  pub bytes : List ℕ
  pub finds : numbered found c ≡ Some bytes
  pub reads : IsAttemptOf bytes a

-- there is this number, and under it stands no such thing, but under each number before it
pub record IsFirstWithout {A : Type 0} (count : ℕ) (IsAt : ℕ → A → Type 0) (n : ℕ) : Type 0 where
  pub above : 1 ≤ n
  pub within : n ≤ count
  pub none : (a : A) → ¬ (IsAt n a)
  pub before : (k : ℕ) → 1 ≤ k → k < n → (a : A) × IsAt k a

-- a list of such things, one under each number
pub record IsEach {A : Type 0} (count : ℕ) (IsAt : ℕ → A → Type 0) (all : List A) : Type 0 where
  pub count_is : length all ≡ count
  pub each : (n : ℕ) (a : A) → numbered all n ≡ Some a → IsAt n a

-- the records of all nodes, and those of all clients
abbrev pub AreRecords : List (List ℕ) → List NodeRecord → Type 0
AreRecords found records = IsEach (length found) (NodeFinds found) records

abbrev pub AreAttempts : List (List ℕ) → List ℕ → Type 0
AreAttempts found attempts = IsEach (length found) (ClientFinds found) attempts

-- a record as a station
-- One line in each of the two crates: a crate for it would make the longest chain of crates longer.
abbrev pub station_in : NodeRecord → ExactStation
station_in r = record { problem = r.problem; entries = r.entries }

abbrev pub stations_in : List NodeRecord → List ExactStation
stations_in records = map station_in records

-- Why nothing is opened from these records of nodes and of clients. The first record that can't be read
-- counts, those of nodes first; only where there is none, an entry that is above its client's attempt.
-- Memory may be refused at any time.
abbrev pub IsRefusedOpening : List (List ℕ) → List (List ℕ) → OpeningFault → Type 0
IsRefusedOpening nodes clients fault.Memory = Unit {0}
IsRefusedOpening nodes clients fault.EntryAboveAttempt =
    (records : List NodeRecord) × (attempts : List ℕ) × AreRecords nodes records × AreAttempts clients attempts × (stations_within attempts (stations_in records) ≡ false)
IsRefusedOpening nodes clients (fault.NoRecord (actor.Node n)) = IsFirstWithout (length nodes) (NodeFinds nodes) n
IsRefusedOpening nodes clients (fault.NoRecord (actor.Client c)) =
    ((records : List NodeRecord) × AreRecords nodes records) × IsFirstWithout (length clients) (ClientFinds clients) c
