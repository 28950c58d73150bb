use Rattle.std.proofs.Common.{◌≡◌, length}
use Rattle.rwdraw.proofs.main.Given as goal

abbrev pub invariant-loop : goal.invariant-loop
invariant-loop l = length l.policies.pairs.items ≡ l.counter
