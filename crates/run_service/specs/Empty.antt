-- What is found in records in which nothing was ever written.
use Rattle.std.specs.Prelude.{ℕ, List, [], ◌∷◌}
use Rattle.lock_model.specs.declared.problems.Problem.{Problem}
use Rattle.stable_record.specs.declared.node_records.NodeRecord.{NodeRecord}
use Rattle.stable_record.specs.Records.{node_record_of, client_record_of}

-- the record of a node that solves the problem, without entries
abbrev pub empty_record : Problem → NodeRecord
empty_record p = record { problem = p; entries = [] }

abbrev pub empty_node : Problem → List (List ℕ)
empty_node p = node_record_of (empty_record p) ∷ []

-- the record of a client that made no attempt yet
abbrev pub empty_client : List (List ℕ)
empty_client = client_record_of 0 ∷ []
