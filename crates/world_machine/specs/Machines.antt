-- What the lists of actors and of messages stand for.
use Rattle.std.specs.Prelude.{◌≡◌, ℕ, ◌≤◌, List, length, map, Some}
use Rattle.lock_messages.specs.declared.messages.Message.{Message}
use Rattle.lock_model.specs.Ballots.{Ballot}
use Rattle.world_actors.specs.Acting.{ActingNode, ActingClient}
use Rattle.world_model.specs.declared.TheConstants.{MAX_MESSAGES}
use Rattle.world_model.specs.declared.exact.ExactNode.{ExactNode}
use Rattle.world_model.specs.declared.exact.ExactClient.{ExactClient}
use Rattle.world_model.specs.declared.exact.ExactWorld.{ExactWorld}
use Rattle.world_model.specs.ExactWorlds.{numbered}
use Rattle.world_model.specs.Forgetting.{IsSound}

abbrev pub node_part : ActingNode → ExactNode
node_part v = v.part

abbrev pub client_part : ActingClient → ExactClient
client_part k = k.part

abbrev pub world_view : List Ballot → List ActingNode → List ActingClient → List Message → ExactWorld
world_view b ns cs sent = record { ballots = b; nodes = map node_part ns; clients = map client_part cs; sent = sent }

-- each actor stands under its number, and clients count votes by the world's ballots
abbrev pub AreNodes : List ActingNode → Type 0
AreNodes ns = (n : ℕ) (v : ActingNode) → numbered ns n ≡ Some v → v.number ≡ n

abbrev pub AreClients : List Ballot → List ActingClient → Type 0
AreClients b cs = (c : ℕ) (k : ActingClient) → numbered cs c ≡ Some k → (k.number ≡ c) × (k.ballots ≡ b)

-- what holds of the lists: the actors are in order, and the messages not too many
pub record IsInOrder (b : List Ballot) (ns : List ActingNode) (cs : List ActingClient) (sent : List Message) : Type 0 where
  pub nodes : AreNodes ns
  pub clients : AreClients b cs
  pub room : length sent ≤ MAX_MESSAGES

-- the world with these nodes, these clients or these messages in place of its own
abbrev pub with_nodes : ExactWorld → List ExactNode → ExactWorld
with_nodes w nodes = record { ballots = w.ballots; nodes = nodes; clients = w.clients; sent = w.sent }

abbrev pub with_clients : ExactWorld → List ExactClient → ExactWorld
with_clients w clients = record { ballots = w.ballots; nodes = w.nodes; clients = clients; sent = w.sent }

abbrev pub with_sent : ExactWorld → List Message → ExactWorld
with_sent w sent = record { ballots = w.ballots; nodes = w.nodes; clients = w.clients; sent = sent }

-- what holds of each world: its actors are in order, and it is sound
pub record IsWorld (b : List Ballot) (ns : List ActingNode) (cs : List ActingClient) (sent : List Message) : Type 0 where
  pub order : IsInOrder b ns cs sent
  pub sound : IsSound (world_view b ns cs sent)
