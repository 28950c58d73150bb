-- What is seen of a service. No contract can say which bytes a file has: they are some bytes that were read.
use Rattle.std.specs.Prelude.{◌≡◌, ◌⊎◌, ◌≤◌, ◌<◌, ◌+◌, ℕ, Bool, List, Option, Some, None, Result, Ok, Err, length, slice_index_or}
use Rattle.std.specs.List.{All}
use Rattle.lock_messages.specs.declared.ids.TheConstants.{MAX_ATTEMPT}
use Rattle.rotating_record.specs.declared.slots.TheConstants.{ROTATING_PLATE_LEN}
use Rattle.rotating_record.specs.Slots.{found_on}
use Rattle.stable_record.specs.declared.node_records.NodeRecord.{NodeRecord}
use Rattle.stable_record.specs.Records.{client_record_of, node_record_of, IsNodeRecord}
use Rattle.file_plate.specs.declared.faults.FileFault.{FileFault}
use Rattle.file_plate.specs.declared.faults.FileFault.TheVariants as fault
use Rattle.service_status.specs.declared.sights.NodeState.{NodeState}
use Rattle.service_status.specs.declared.sights.NodeState.TheVariants as node
use Rattle.service_status.specs.declared.sights.SeenNode.{SeenNode}
use Rattle.service_status.specs.declared.sights.ClientState.{ClientState}
use Rattle.service_status.specs.declared.sights.ClientState.TheVariants as client
use Rattle.service_status.specs.declared.sights.SeenClient.{SeenClient}
use Rattle.service_status.specs.declared.sights.Sight.{Sight}

-- the faults of opening a file
abbrev pub IsOpenFault : FileFault → Type 0
IsOpenFault f = (f ≡ fault.Missing) ⊎ (f ≡ fault.Unreadable)

-- the faults that are printed: the file is of the wrong size, holds no record of the actor, or can't be read
abbrev pub IsStateFault : FileFault → Type 0
IsStateFault f = (f ≡ fault.WrongSize) ⊎ ((f ≡ fault.NotFormatted) ⊎ (f ≡ fault.Unreadable))

-- the faults of reading a record, and of opening a file and reading it
abbrev pub IsReadFault : FileFault → Type 0
IsReadFault f = (f ≡ fault.Memory) ⊎ IsStateFault f

abbrev pub IsOfFile : FileFault → Type 0
IsOfFile f = (f ≡ fault.Missing) ⊎ IsReadFault f

-- some bytes of a record's size have this record
abbrev pub HoldsBody : List ℕ → Type 0
HoldsBody body = (bytes : List ℕ) × (length bytes ≡ ROTATING_PLATE_LEN) × (found_on bytes ≡ Some body)

-- they have the record of a node, and of a client whose last attempt is this
abbrev pub HoldsNode : NodeRecord → Type 0
HoldsNode kept = IsNodeRecord kept × HoldsBody (node_record_of kept)

abbrev pub HoldsClient : ℕ → Type 0
HoldsClient attempt = (attempt ≤ MAX_ATTEMPT) × HoldsBody (client_record_of attempt)

-- what may be seen of a node, and of a client
abbrev pub IsNodeState : NodeState → Type 0
IsNodeState (node.Seen up kept) = HoldsNode kept
IsNodeState (node.Faulty f) = IsStateFault f
IsNodeState node.Elsewhere = Unit {0}

abbrev pub IsClientState : ClientState → Type 0
IsClientState (client.Up attempt) = HoldsClient attempt
IsClientState client.Down = Unit {0}
IsClientState (client.Faulty f) = IsStateFault f
IsClientState client.Elsewhere = Unit {0}

-- what is seen by what was read, and nothing if memory ran out
abbrev pub node_state_of : Result (Bool × NodeRecord) FileFault → Option NodeState
node_state_of (Ok seen) = Some (node.Seen seen.0 seen.1)
node_state_of (Err fault.Missing) = Some node.Elsewhere
node_state_of (Err fault.Memory) = None
node_state_of (Err f) = Some (node.Faulty f)

abbrev pub client_state_of : Result (Option ℕ) FileFault → Option ClientState
client_state_of (Ok (Some attempt)) = Some (client.Up attempt)
client_state_of (Ok None) = Some client.Down
client_state_of (Err fault.Missing) = Some client.Elsewhere
client_state_of (Err fault.Memory) = None
client_state_of (Err f) = Some (client.Faulty f)

-- They are the first nodes, so many, in the order of their numbers.
pub record AreNodes (count : ℕ) (nodes : List SeenNode) : Type 0 where
  pub all : length nodes ≡ count
  pub order : (k : ℕ) (d : SeenNode) → k < count → (slice_index_or nodes k d).node ≡ k + 1
  pub states : All (λ s. IsNodeState s.state) nodes

-- They are the first clients, so many, in the order of their numbers.
pub record AreClients (count : ℕ) (clients : List SeenClient) : Type 0 where
  pub all : length clients ≡ count
  pub order : (k : ℕ) (d : SeenClient) → k < count → (slice_index_or clients k d).client ≡ k + 1
  pub states : All (λ s. IsClientState s.state) clients

-- A sight of a service of so many nodes and clients.
pub record IsSight (nodes clients : ℕ) (s : Sight) : Type 0 where
  pub nodes_seen : AreNodes nodes s.nodes.items
  pub clients_seen : AreClients clients s.clients.items
