use Rattle.std.proofs.Common.{◌≡◌, ◌∷◌, [], map, replicate}
use Rattle.run_service.specs.Empty.{empty_client}
use Rattle.run_service.proofs.sessions.empty_client_records.Given as goal

abbrev pub invariant-loop : goal.invariant-loop
invariant-loop l = map (λ m. m ∷ []) l.all.items ≡ replicate l.counter empty_client
