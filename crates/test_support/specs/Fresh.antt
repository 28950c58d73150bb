-- Worlds in which nothing has happened.
use Rattle.std.specs.Prelude.{ℕ, List, [], ◌∷◌, replicate}
use Rattle.lock_model.specs.declared.problems.Problem.{Problem}
use Rattle.lock_model.specs.Ballots.{Ballot, node_count}
use Rattle.stable_record.specs.declared.node_records.NodeRecord.{NodeRecord}
use Rattle.world_model.specs.declared.exact.ExactWorld.{ExactWorld}
use Rattle.world_model.specs.Openings.{opening}

-- the list of the one ballot of these votes
abbrev pub ballot_list : List ℕ → ℕ → ℕ → List Ballot
ballot_list votes read write = record { votes = votes; read = read; write = write } ∷ []

-- a world of these ballots, all of whose nodes are for this problem, and of so many clients
abbrev pub fresh_world : List Ballot → Problem → ℕ → ExactWorld
fresh_world b p clients = opening b (replicate (node_count b) p) clients

-- the record of a node for this problem that has kept nothing
abbrev pub empty_record : Problem → NodeRecord
empty_record p = record { problem = p; entries = [] }
