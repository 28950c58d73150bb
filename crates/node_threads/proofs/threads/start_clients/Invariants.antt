use Rattle.std.proofs.Common.{◌≡◌, ◌++◌, map, All}
use Rattle.std.specs.Vec.Iter.{into_iter_items}
use Rattle.node_threads.specs.Ends.{with_wishes}
use Rattle.node_threads.specs.Tasks.{IsClientTask}
use Rattle.node_threads.proofs.threads.start_clients.Given as goal

-- the tasks that are left; the threads are those of the tasks before
abbrev pub invariant-loop-task : goal.invariant-loop-task
invariant-loop-task g l = record {
  can : (goal.iterator-loop-task g).can_next l.task-iterator;
  finite : (goal.iterator-loop-task g).is_finite l.task-iterator;
  tasks : All (λ t. IsClientTask g.B.BookName.table t.client t.ballots t.wishes.items t.berth ((goal.StableRecord-dyn g (t.stable.vtable, t.stable.value)).finds t.stable.value)) (into_iter_items l.task-iterator);
  named : map (λ t. with_wishes t.promise.client t.promise.wishes.value.items t.promise.berth.value.table) l.threads.items ++ map (λ t. with_wishes t.client t.wishes.items t.berth.table) (into_iter_items l.task-iterator)
      ≡ map (λ t. with_wishes t.client t.wishes.items t.berth.table) l.fn.clients.items;
}
