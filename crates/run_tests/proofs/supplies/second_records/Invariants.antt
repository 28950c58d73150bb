use Rattle.std.proofs.Common.{◌≡◌, map, replicate}
use Rattle.lock_model.specs.declared.problems.Problem.TheVariants.{Second}
use Rattle.run_service.specs.Empty.{empty_node}
use Rattle.run_tests.proofs.supplies.second_records.Given as goal

abbrev pub invariant-loop : goal.invariant-loop
invariant-loop g l = map (λ r. (goal.StableRecord-dyn g (r.vtable, r.value)).finds r.value) l.records.items ≡ replicate l.counter (empty_node Second)
