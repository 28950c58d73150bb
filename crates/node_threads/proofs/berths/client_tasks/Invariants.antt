use Rattle.std.proofs.Common.{◌≡◌, ◌+◌, ◌++◌, length, map, All}
use Rattle.std.specs.List.{range_with_len}
use Rattle.node_threads.specs.Actors.{AreClientsReady}
use Rattle.node_threads.specs.Tasks.{IsClientTask, own_wishes}
use Rattle.node_threads.proofs.berths.client_tasks.Given as goal

-- the clients whose records are left are ready, and those before have their tasks
abbrev pub invariant-loop-place : goal.invariant-loop-place
invariant-loop-place g l = record {
  ready : AreClientsReady l.place l.book.opening (map (λ r. (goal.StableRecord-dyn g (r.vtable, r.value)).finds r.value) l.records.items);
  records : l.place + length l.records.items ≡ l.count;
  links : l.place + length l.links.items ≡ l.count;
  tasks : All (λ t. IsClientTask l.fn.book.table t.client t.ballots t.wishes.items t.berth ((goal.StableRecord-dyn g (t.stable.vtable, t.stable.value)).finds t.stable.value)) l.tasks.items;
  own : All (λ t. t.wishes.items ≡ own_wishes t.client l.wishes) l.tasks.items;
  named : map (λ t. t.client) l.tasks.items ≡ range_with_len 1 l.place;
  linked : map (λ t. t.link) l.tasks.items ++ l.links.items ≡ l.fn.links.items;
  table : l.book.table ≡ l.fn.book.table;
  opening : l.book.opening ≡ l.fn.book.opening;
}
