-- The ballots of the service.
use Rattle.std.specs.Prelude.{List, [], ◌∷◌}
use Rattle.lock_model.specs.Ballots.{Ballot}

-- one ballot, of one node, whose vote is enough
abbrev pub one_node : List Ballot
one_node = record { votes = 1 ∷ []; read = 1; write = 1 } ∷ []
