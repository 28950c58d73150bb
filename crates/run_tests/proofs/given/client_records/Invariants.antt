use Rattle.std.proofs.Common.{◌≡◌, map, replicate}
use Rattle.run_service.specs.Empty.{empty_client}
use Rattle.run_tests.proofs.given.client_records.Given as goal

abbrev pub invariant-loop : goal.invariant-loop
invariant-loop g l = map (λ r. (goal.StableRecord-dyn g (r.vtable, r.value)).finds r.value) l.records.items ≡ replicate l.counter empty_client
