use Rattle.std.proofs.Common.{◌≡◌, ◌∷◌, [], map, take}
use Rattle.session_tests.proofs.kept.client_records_of.Given as goal

abbrev pub invariant-loop-one : goal.invariant-loop-one
invariant-loop-one l = map (λ r. r ∷ []) l.records.items ≡ map (λ b. b.items ∷ []) (take l.one-index l.kept)
