use Rattle.std.proofs.Common.{◌≡◌, None, length, replicate}
use Rattle.run_service.proofs.sessions.plain_policies.Given as goal

abbrev pub invariant-loop : goal.invariant-loop
invariant-loop g l = record {
  count : length l.pairs.items ≡ l.counter;
  plain : l.pairs.items ≡ replicate l.counter (record { first = None; second = None });
}
