use Rattle.std.proofs.Common.{map}
use Rattle.world_opening.specs.Openings.{IsEach, ClientFinds}
use Rattle.world_opening.proofs.judging.attempts_of.Given as goal

abbrev pub invariant-loop-place : goal.invariant-loop-place
invariant-loop-place l = IsEach l.place (ClientFinds (map (λ v. v.items) l.found)) l.attempts.items
