use Rattle.std.proofs.Common.{◌≡◌, ◌∷◌, [], map, take}
use Rattle.session_tests.proofs.kept.node_records_of.Given as goal

abbrev pub invariant-loop-one : goal.invariant-loop-one
invariant-loop-one g l = map (λ r. (goal.StableRecord-dyn g (r.vtable, r.value)).finds r.value) l.records.items ≡ map (λ b. b.items ∷ []) (take l.one-index l.kept)
