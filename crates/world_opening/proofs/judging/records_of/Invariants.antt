use Rattle.std.proofs.Common.{map}
use Rattle.world_opening.specs.Openings.{IsEach, NodeFinds}
use Rattle.world_opening.proofs.judging.records_of.Given as goal

abbrev pub invariant-loop-place : goal.invariant-loop-place
invariant-loop-place l = IsEach l.place (NodeFinds (map (λ v. v.items) l.found)) l.records.items
