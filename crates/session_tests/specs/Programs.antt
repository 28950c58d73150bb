-- What is found in the records of a service in which nothing has happened.
use Rattle.std.specs.Prelude.{ℕ, List, [], ◌∷◌}
use Rattle.stable_record.specs.Records.{client_record_of}

-- a node for problem 1 that has kept nothing
abbrev pub node_found : List (List (List ℕ))
node_found = ((1 ∷ 1 ∷ 0 ∷ 0 ∷ []) ∷ []) ∷ []

-- two clients that have made no attempt
abbrev pub clients_found : List (List (List ℕ))
clients_found = (client_record_of 0 ∷ []) ∷ (client_record_of 0 ∷ []) ∷ []
