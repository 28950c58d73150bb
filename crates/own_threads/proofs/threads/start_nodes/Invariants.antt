use Rattle.std.proofs.Common.{◌≡◌, ◌++◌, map, All}
use Rattle.std.specs.Vec.Iter.{into_iter_items}
use Rattle.own_threads.specs.Tasks.{IsNodeTask}
use Rattle.own_threads.proofs.threads.start_nodes.Given as goal

-- the tasks that are left; the threads are those of the tasks before
abbrev pub invariant-loop-task : goal.invariant-loop-task
invariant-loop-task g l = record {
  can : (goal.iterator-loop-task g).can_next l.task-iterator;
  finite : (goal.iterator-loop-task g).is_finite l.task-iterator;
  tasks : All (λ t. IsNodeTask t.node (g.N.Recorder.own_log t.recorder) ((goal.StableRecord-dyn g (t.stable.vtable, t.stable.value)).finds t.stable.value)) (into_iter_items l.task-iterator);
  began : map (λ t. g.N.ActorRecorder.beginning t.promise.recorder.value) l.threads.items ++ map (λ t. g.N.ActorRecorder.beginning t.recorder) (into_iter_items l.task-iterator) ≡ map (λ t. g.N.ActorRecorder.beginning t.recorder) l.fn.nodes.items;
}
