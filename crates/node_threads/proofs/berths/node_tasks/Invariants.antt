use Rattle.std.proofs.Common.{◌≡◌, ◌+◌, ◌++◌, length, map, All}
use Rattle.std.specs.List.{range_with_len}
use Rattle.node_threads.specs.Actors.{AreNodesReady}
use Rattle.node_threads.specs.Tasks.{IsNodeTask}
use Rattle.node_threads.proofs.berths.node_tasks.Given as goal

-- the nodes whose policies and records are left are ready, and those before have their tasks
abbrev pub invariant-loop-place : goal.invariant-loop-place
invariant-loop-place g l = record {
  ready : AreNodesReady l.place l.book.opening (map (λ r. (goal.StableRecord-dyn g (r.vtable, r.value)).finds r.value) l.records.items);
  pairs : l.place + length l.pairs.items ≡ l.count;
  records : l.place + length l.records.items ≡ l.count;
  links : l.place + length l.links.items ≡ l.count;
  tasks : All (λ t. IsNodeTask l.fn.book.table t.node t.berth ((goal.StableRecord-dyn g (t.stable.vtable, t.stable.value)).finds t.stable.value)) l.tasks.items;
  named : map (λ t. t.node) l.tasks.items ≡ range_with_len 1 l.place;
  linked : map (λ t. t.link) l.tasks.items ++ l.links.items ≡ l.fn.links.items;
  table : l.book.table ≡ l.fn.book.table;
  opening : l.book.opening ≡ l.fn.book.opening;
}
