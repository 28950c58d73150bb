use Rattle.std.proofs.Common.{◌≡◌, ◌≢◌, take, All}
use Rattle.node_threads.proofs.session_lists.take_end.Given as goal

-- none of those that were seen is the client's
abbrev pub invariant-loop-place : goal.invariant-loop-place
invariant-loop-place g l = record {
  seen : All (λ e. e.client ≢ l.client) (take l.place l.ends.items);
  same : l.ends.items ≡ l.fn.ends.items;
}
