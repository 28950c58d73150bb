-- A node's core, with what the node has kept and tries to keep, as a node of the exact world.
use Rattle.std.specs.Prelude.{◌≡◌, Bool, true, false, Option, None, IfSome}
use Rattle.std.specs.Option.{option_map}
use Rattle.stable_record.specs.declared.node_records.NodeRecord.{NodeRecord}
use Rattle.stable_record.specs.Records.{IsNodeRecord}
use Rattle.voter_core.specs.Voters.{Voter, State, Idle, Decided, Stored, record_of}
use Rattle.world_model.specs.declared.exact.ExactStation.{ExactStation}
use Rattle.world_model.specs.declared.exact.ExactNodePhase.{ExactNodePhase}
use Rattle.world_model.specs.declared.exact.ExactNodePhase.TheVariants as node
use Rattle.world_actors.specs.Acting.{ActingNode}

-- what a record keeps
-- One line in each of the two crates: a crate for it would make the longest chain of crates longer.
abbrev pub station_in : NodeRecord → ExactStation
station_in r = record { problem = r.problem; entries = r.entries }

-- what a node that is up is about, where this is its core's record
abbrev pub phase_of : NodeRecord → State → ExactNodePhase
phase_of r Idle = node.Idle
phase_of r (Decided replies) = node.Decided (station_in r) replies
phase_of r (Stored replies) = node.Stored replies

-- a node that is down is about nothing, whatever its core was about as it fell
abbrev pub phase_if : Bool → Voter → ExactNodePhase
phase_if true core = phase_of (record_of core) core.state
phase_if false core = node.Down

abbrev pub acting_node : Voter → NodeRecord → Option NodeRecord → Bool → ActingNode
acting_node core kept tried up = record {
  number = core.node;
  part = record { kept = station_in kept; tried = option_map station_in tried; phase = phase_if up core };
}

-- The core's record is the kept one, and nothing is tried; only what is decided differs, and then it is
-- what is tried, if anything is.
abbrev pub IsInStep : State → NodeRecord → NodeRecord → Option NodeRecord → Type 0
IsInStep Idle now kept tried = (now ≡ kept) × (tried ≡ None)
IsInStep (Decided replies) now kept tried = IfSome tried (λ r. r ≡ now)
IsInStep (Stored replies) now kept tried = (now ≡ kept) × (tried ≡ None)

abbrev pub IsInStepIf : Bool → Voter → NodeRecord → Option NodeRecord → Type 0
IsInStepIf true core kept tried = IsInStep core.state (record_of core) kept tried
IsInStepIf false core kept tried = Unit {0}

-- what holds of each node
pub record IsActing (core : Voter) (k : NodeRecord) (t : Option NodeRecord) (up : Bool) : Type 0 where
  pub kept : IsNodeRecord k
  pub tried : IfSome t IsNodeRecord
  pub in_step : IsInStepIf up core k t
