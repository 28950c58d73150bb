-- The exact world without its order and its numbers: a world of sets and maps. And what every exact
-- world that comes up is like.
use Rattle.std.specs.Prelude.{◌≡◌, ℕ, ◌≤◌, [], length, Option, Some, None, IfSome}
use Rattle.std.specs.Option.{option_map}
use Rattle.lock_messages.specs.declared.ids.TheConstants.{MAX_ATTEMPT}
use Rattle.lock_model.specs.declared.problems.Problem.TheVariants.{First}
use Rattle.lock_model.specs.Ballots.{AllCross, node_count}
use Rattle.lock_model.specs.Stations.{Station, IsLawful, IsCaused}
use Rattle.lock_model.specs.ExactStations.{IsWellFormed, meaning}
use Rattle.vote_weights.specs.Sets.{has_node}
use Rattle.world_model.specs.declared.TheConstants.{MAX_MESSAGES}
use Rattle.world_model.specs.declared.exact.ExactStation.{ExactStation}
use Rattle.world_model.specs.declared.exact.ExactNode.{ExactNode}
use Rattle.world_model.specs.declared.exact.ExactNodePhase.{ExactNodePhase}
use Rattle.world_model.specs.declared.exact.ExactNodePhase.TheVariants as node
use Rattle.world_model.specs.declared.exact.ExactClient.{ExactClient}
use Rattle.world_model.specs.declared.exact.ExactPresent.{ExactPresent}
use Rattle.world_model.specs.declared.exact.ExactClientPhase.{ExactClientPhase}
use Rattle.world_model.specs.declared.exact.ExactClientPhase.TheVariants as client
use Rattle.world_model.specs.declared.exact.ExactWorld.{ExactWorld}
use Rattle.world_model.specs.Worlds.{NodePhase, NodeDown, NodeIdle, Decided, Stored, Node, Present, ClientPhase, ClientDown, ClientIdle, Chosen, Asking, IsIn, Client, World, Setting}
use Rattle.world_model.specs.Invariants.{IsSafe}
use Rattle.world_model.specs.ExactWorlds.{numbered}

-- the station that the entries stand for
abbrev pub station_of : ExactStation → Station
station_of s = meaning s.problem s.entries

abbrev pub node_phase_of : ExactNodePhase → NodePhase
node_phase_of node.Down = NodeDown
node_phase_of node.Idle = NodeIdle
node_phase_of (node.Decided s replies) = Decided (station_of s) replies
node_phase_of (node.Stored replies) = Stored replies

abbrev pub node_of : ExactNode → Node
node_of v = record { kept = station_of v.kept; tried = option_map station_of v.tried; phase = node_phase_of v.phase }

-- the list of nodes that granted a ticket, as a set
abbrev pub present_of : ExactPresent → Present
present_of p = record { ticket = p.ticket; place = p.place; granted = has_node p.granted; softened = p.softened }

abbrev pub client_phase_of : ExactClientPhase → ClientPhase
client_phase_of client.Down = ClientDown
client_phase_of client.Idle = ClientIdle
client_phase_of (client.Chosen t place) = Chosen t place
client_phase_of (client.Asking p) = Asking (present_of p)
client_phase_of (client.Inside p) = IsIn (present_of p)

abbrev pub client_of : ExactClient → Client
client_of k = record { kept = k.kept; tried = k.tried; phase = client_phase_of k.phase }

-- under a number that no actor has stands one that is down and never did anything
abbrev pub node_numbered : Option ExactNode → Node
node_numbered None = record { kept = meaning First []; tried = None; phase = NodeDown }
node_numbered (Some v) = node_of v

abbrev pub client_numbered : Option ExactClient → Client
client_numbered None = record { kept = 0; tried = None; phase = ClientDown }
client_numbered (Some k) = client_of k

abbrev pub forget : ExactWorld → World
forget w = record { nodes = λ n. node_numbered (numbered w.nodes n); clients = λ c. client_numbered (numbered w.clients c); sent = w.sent }

-- who takes part
abbrev pub setting_of : ExactWorld → Setting
setting_of w = record { ballots = w.ballots; clients = length w.clients }

-- the entries are those of a lawful and caused station
pub record IsSoundStation (s : ExactStation) : Type 0 where
  pub well_formed : IsWellFormed s.entries
  pub lawful : IsLawful (station_of s)
  pub caused : IsCaused (station_of s)

-- the station that a phase has, if it has one, is sound
abbrev pub IsSoundPhase : ExactNodePhase → Type 0
IsSoundPhase node.Down = Unit {0}
IsSoundPhase node.Idle = Unit {0}
IsSoundPhase (node.Decided s replies) = IsSoundStation s
IsSoundPhase (node.Stored replies) = Unit {0}

-- each station of a node is sound: the kept one, the tried one and the decided one
pub record IsSoundNode (v : ExactNode) : Type 0 where
  pub kept : IsSoundStation v.kept
  pub tried : IfSome v.tried IsSoundStation
  pub decided : IsSoundPhase v.phase

-- an attempt that is chosen is in range
abbrev pub IsSoundChoice : ExactClientPhase → Type 0
IsSoundChoice client.Down = Unit {0}
IsSoundChoice client.Idle = Unit {0}
IsSoundChoice (client.Chosen t place) = t.attempt ≤ MAX_ATTEMPT
IsSoundChoice (client.Asking p) = Unit {0}
IsSoundChoice (client.Inside p) = Unit {0}

-- each attempt of a client is in range: the kept one, the tried one and the chosen one
pub record IsSoundClient (k : ExactClient) : Type 0 where
  pub kept : k.kept ≤ MAX_ATTEMPT
  pub tried : IfSome k.tried (λ a. a ≤ MAX_ATTEMPT)
  pub chosen : IsSoundChoice k.phase

-- The ballots cross, the nodes are as many as they have, each actor is sound, the list of messages is not
-- over its greatest length, and what makes a writer alone holds. What opens a world has this, and each
-- step keeps it.
pub record IsSound (w : ExactWorld) : Type 0 where
  pub crosses : AllCross w.ballots
  pub nodes : length w.nodes ≡ node_count w.ballots
  pub each_node : (n : ℕ) (v : ExactNode) → numbered w.nodes n ≡ Some v → IsSoundNode v
  pub each_client : (c : ℕ) (k : ExactClient) → numbered w.clients c ≡ Some k → IsSoundClient k
  pub room : length w.sent ≤ MAX_MESSAGES
  pub safe : IsSafe (setting_of w) (forget w)
