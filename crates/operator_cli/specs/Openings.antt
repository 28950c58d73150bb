-- The world that a script begins with.
use Rattle.std.specs.Prelude.{[], replicate, None}
use Rattle.lock_model.specs.Ballots.{node_count}
use Rattle.lock_model.specs.declared.problems.Problem.{Problem}
use Rattle.world_model.specs.declared.exact.ExactNode.{ExactNode}
use Rattle.world_model.specs.declared.exact.ExactNodePhase.TheVariants as node
use Rattle.world_model.specs.declared.exact.ExactClient.{ExactClient}
use Rattle.world_model.specs.declared.exact.ExactClientPhase.TheVariants as client
use Rattle.world_model.specs.declared.exact.ExactWorld.{ExactWorld}
use Rattle.world_model.specs.Openings.{empty_station}
use Rattle.world_settings.specs.declared.settings.Settings.{Settings}

-- an actor that rose and has kept nothing yet
abbrev pub risen_node : Problem → ExactNode
risen_node p = record { kept = empty_station p; tried = None; phase = node.Idle }

abbrev pub risen_client : ExactClient
risen_client = record { kept = 0; tried = None; phase = client.Idle }

-- Every node and every client of the settings rose, the nodes solve the settings' problem, and nothing
-- was sent yet.
abbrev pub all_risen : Settings → ExactWorld
all_risen s = record { ballots = s.ballots; nodes = replicate (node_count s.ballots) (risen_node s.problem); clients = replicate s.clients risen_client; sent = [] }
