-- The world that settings open.
use Rattle.std.specs.Prelude.{replicate}
use Rattle.lock_model.specs.Ballots.{node_count}
use Rattle.world_model.specs.declared.exact.ExactWorld.{ExactWorld}
use Rattle.world_model.specs.Openings.{opening}
use Rattle.world_settings.specs.declared.settings.Settings.{Settings}

-- Every node and every client of the settings is down, and nothing is kept.
abbrev pub all_down : Settings → ExactWorld
all_down s = opening s.ballots (replicate (node_count s.ballots) s.problem) s.clients
