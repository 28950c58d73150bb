use Rattle.std.proofs.Common.{◌≡◌, ◌+◌, ◌++◌, length, map, All}
use Rattle.std.specs.List.{range_with_len}
use Rattle.node_threads.specs.Actors.{AreClientsReady}
use Rattle.node_threads.specs.Tasks.{IsClientBerth}
use Rattle.node_threads.proofs.session_tasks.session_tasks.Given as goal

-- the clients whose records are left are ready, and what was made of those before is as it has to be
abbrev pub invariant-loop-place : goal.invariant-loop-place
invariant-loop-place g l = record {
  ready : AreClientsReady l.place l.book.opening (map (λ r. g.S.StableRecord.finds r) l.records.items);
  records : l.place + length l.records.items ≡ l.count;
  links : l.place + length l.links.items ≡ l.count;
  tasks : All (λ t. IsClientBerth l.fn.book.table t.client l.fn.book.opening.ballots t.berth (g.S.StableRecord.finds t.stable)) l.tasks.items;
  named : map (λ t. t.client) l.tasks.items ≡ range_with_len 1 l.place;
  linked : map (λ t. t.link) l.tasks.items ++ l.links.items ≡ l.fn.links.items;
  table : l.book.table ≡ l.fn.book.table;
  opening : l.book.opening ≡ l.fn.book.opening;
}
