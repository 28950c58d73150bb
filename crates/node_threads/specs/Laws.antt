-- Which worlds may run, beside those in which nothing is kept.
use Rattle.std.specs.Prelude.{ℕ, List, [], ◌∷◌, ◌++◌, length, map}
use Rattle.lock_model.specs.Ballots.{Ballot}
use Rattle.world_model.specs.declared.exact.ExactWorld.{ExactWorld}
use Rattle.world_machine.specs.Opened.{IsResumed}
use Rattle.node_threads.specs.Conditions.{MayRun}

-- what records find that hold just these bytes
abbrev pub finds_each : List (List ℕ) → List (List (List ℕ))
finds_each all = map (λ bytes. bytes ∷ []) all

-- A world that was resumed from these records of nodes and clients may run with records in which just these are
-- found, and a pair a node.
abbrev pub ResumedMayRun : Type 0
ResumedMayRun = (b : List Ballot) (nodes clients : List (List ℕ)) (w : ExactWorld) → IsResumed b nodes clients w → MayRun w b (length nodes) (finds_each nodes ++ finds_each clients)
