use Rattle.std.proofs.Common.{◌≡◌, map, replicate}
use Rattle.lock_model.specs.declared.problems.Problem.TheVariants.{First}
use Rattle.run_service.specs.Empty.{empty_node}
use Rattle.run_tests.proofs.given.node_records.Given as goal

abbrev pub invariant-loop-place : goal.invariant-loop-place
invariant-loop-place g l = map (λ r. (goal.StableRecord-dyn g (r.vtable, r.value)).finds r.value) l.records.items ≡ replicate l.place (empty_node First)
