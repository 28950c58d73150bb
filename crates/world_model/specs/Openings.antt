-- The exact worlds from which runs start.
use Rattle.std.specs.Prelude.{◌≡◌, ℕ, ◌≤◌, ◌&&◌, Bool, true, nat_le, List, [], length, map, replicate, Option, Some, None, IsTrue}
use Rattle.std.specs.List.{list_all, AllByRecursion}
use Rattle.lock_messages.specs.declared.ids.TheConstants.{MAX_ATTEMPT}
use Rattle.lock_model.specs.declared.entries.Entry.{Entry}
use Rattle.lock_model.specs.declared.entries.Live.{Live}
use Rattle.lock_model.specs.declared.problems.Problem.{Problem}
use Rattle.lock_model.specs.Ballots.{Ballot, AllCross, node_count}
use Rattle.world_model.specs.declared.exact.ExactStation.{ExactStation}
use Rattle.world_model.specs.declared.exact.ExactNode.{ExactNode}
use Rattle.world_model.specs.declared.exact.ExactNodePhase.TheVariants as node
use Rattle.world_model.specs.declared.exact.ExactClient.{ExactClient}
use Rattle.world_model.specs.declared.exact.ExactClientPhase.TheVariants as client
use Rattle.world_model.specs.declared.exact.ExactWorld.{ExactWorld}
use Rattle.world_model.specs.ExactWorlds.{numbered}
use Rattle.world_model.specs.Forgetting.{IsSoundStation}

-- an actor that is down, with what it has kept and nothing tried
abbrev pub down_node : ExactStation → ExactNode
down_node s = record { kept = s; tried = None; phase = node.Down }

abbrev pub down_client : ℕ → ExactClient
down_client attempt = record { kept = attempt; tried = None; phase = client.Down }

-- The world in which these stations and attempts are kept: all actors are down, nothing is sent.
abbrev pub resumed : List Ballot → List ExactStation → List ℕ → ExactWorld
resumed b stations attempts = record { ballots = b; nodes = map down_node stations; clients = map down_client attempts; sent = [] }

-- a record in which nothing was ever written
abbrev pub empty_station : Problem → ExactStation
empty_station p = record { problem = p; entries = [] }

-- The world in which nothing is kept: each node's problem is given, and the number of clients.
abbrev pub opening : List Ballot → List Problem → ℕ → ExactWorld
opening b problems clients = resumed b (map empty_station problems) (replicate clients 0)

-- the attempt that a client has kept, 0 for one that isn't there
abbrev pub attempt_of : Option ℕ → ℕ
attempt_of None = 0
attempt_of (Some a) = a

abbrev pub kept_attempt : List ℕ → ℕ → ℕ
kept_attempt attempts c = attempt_of (numbered attempts c)

-- an entry's floor and live attempt are not above the attempt that its client has kept
abbrev pub live_within : ℕ → Option Live → Bool
live_within kept None = true
live_within kept (Some l) = nat_le l.attempt kept

abbrev pub entry_within : List ℕ → Entry → Bool
entry_within attempts e = let kept = kept_attempt attempts e.client in nat_le e.floor kept && live_within kept e.live

abbrev pub entries_within : List ℕ → List Entry → Bool
entries_within attempts entries = list_all (entry_within attempts) entries

-- the same of all entries of all stations
abbrev pub stations_within : List ℕ → List ExactStation → Bool
stations_within attempts stations = list_all (λ s. entries_within attempts s.entries) stations

-- What a world can be resumed from: ballots that cross, a station for each of their nodes that is well
-- formed, lawful and caused, attempts in range, and no floor or live attempt above its client's attempt.
pub record IsResumable (b : List Ballot) (stations : List ExactStation) (attempts : List ℕ) : Type 0 where
  pub crosses : AllCross b
  pub nodes : length stations ≡ node_count b
  pub sound : AllByRecursion IsSoundStation stations
  pub in_range : AllByRecursion (λ a. a ≤ MAX_ATTEMPT) attempts
  pub within : IsTrue (stations_within attempts stations)
