-- Who has or waits for which vote, by the records of the nodes.
use Rattle.std.specs.Prelude.{◌≡◌, ℕ, Bool, List, [], ◌∷◌, Option, Some, None}
use Rattle.std.specs.List.{flat_map}
use Rattle.std.specs.Ordering.{ordering_then, nat_cmp}
use Rattle.std.specs.declared.cmp.Ordering.{Ordering}
use Rattle.std.specs.Cmp.Lexicographic.{slice_cmp}
use Rattle.lock_messages.specs.declared.tickets.Mode.{Mode}
use Rattle.lock_messages.specs.declared.tickets.Mode.TheVariants.{Read, Write}
use Rattle.lock_model.specs.declared.entries.Entry.{Entry}
use Rattle.lock_model.specs.declared.entries.Live.{Live}
use Rattle.lock_model.specs.declared.entries.Status.{Status}
use Rattle.lock_model.specs.declared.entries.Status.TheVariants.{Waiting, Holding, Softened}
use Rattle.lock_model.specs.Decisions.{Among}
use Rattle.stable_record.specs.declared.node_records.NodeRecord.{NodeRecord}
use Rattle.service_status.specs.declared.sights.NodeState.{NodeState}
use Rattle.service_status.specs.declared.sights.NodeState.TheVariants.{Seen, Faulty, Elsewhere}
use Rattle.service_status.specs.declared.sights.SeenNode.{SeenNode}
use Rattle.service_status.specs.declared.claims.Standing.{Standing}
use Rattle.service_status.specs.declared.claims.Standing.TheVariants as standing
use Rattle.service_status.specs.declared.claims.Claim.{Claim}

-- how a ticket of this mode and this status stands
abbrev pub standing_of : Mode → Status → Standing
standing_of Write Holding = standing.Writes
standing_of Read Holding = standing.Reads
standing_of mode Softened = standing.Downgraded
standing_of Write Waiting = standing.AwaitsWrite
standing_of Read Waiting = standing.AwaitsRead

-- what a node's record says of a client's live ticket
abbrev pub claim_of : ℕ → ℕ → Live → Claim
claim_of node client l = record { resource = l.resource; standing = standing_of l.mode l.status; client = client; node = node }

-- the order of standings, as their enum lists them
abbrev pub rank_of : Standing → ℕ
rank_of standing.Writes = 0
rank_of standing.Reads = 1
rank_of standing.Downgraded = 2
rank_of standing.AwaitsWrite = 3
rank_of standing.AwaitsRead = 4

-- the order of claims: by resource, then by standing, client and node
abbrev pub claim_cmp : Claim → Claim → Ordering
claim_cmp a b =
    ordering_then (slice_cmp nat_cmp a.resource b.resource)
    (ordering_then (nat_cmp (rank_of a.standing) (rank_of b.standing))
    (ordering_then (nat_cmp a.client b.client) (nat_cmp a.node b.node)))

-- what is said of an entry: a claim if it has a live ticket
abbrev pub claims_of_live : ℕ → ℕ → Option Live → List Claim
claims_of_live node client None = []
claims_of_live node client (Some l) = claim_of node client l ∷ []

abbrev pub claims_of_entry : ℕ → Entry → List Claim
claims_of_entry node e = claims_of_live node e.client e.live

-- what the record of a node says, if it was read
abbrev pub claims_of_state : ℕ → NodeState → List Claim
claims_of_state node (Seen up r) = flat_map (claims_of_entry node) r.entries
claims_of_state node (Faulty f) = []
claims_of_state node Elsewhere = []

abbrev pub claims_of_node : SeenNode → List Claim
claims_of_node s = claims_of_state s.node s.state

-- The record of a node that was read has an entry with a live ticket that claims this.
pub record IsClaim (nodes : List SeenNode) (claim : Claim) : Type 0 where
  pub at : SeenNode
  pub up : Bool
  pub kept : NodeRecord
  pub entry : Entry
  pub ticket : Live
  pub seen : Among at nodes
  pub read : at.state ≡ Seen up kept
  pub listed : Among entry kept.entries
  pub live : entry.live ≡ Some ticket
  pub is : claim ≡ claim_of at.node entry.client ticket
