use Rattle.std.proofs.Common.{◌≡◌, ◌+◌, ◌++◌, length, map, All}
use Rattle.own_threads.specs.Tasks.{IsNodeTask, AreNodesReady}
use Rattle.own_threads.proofs.tasks.node_tasks.Given as goal

-- the nodes that are left are ready, and those before have their tasks
abbrev pub invariant-loop-place : goal.invariant-loop-place
invariant-loop-place g l = record {
  ready : AreNodesReady (l.place + 1) (map (λ s. (g.N.Recorder.own_log s.recorder, (goal.StableRecord-dyn g (s.stable.vtable, s.stable.value)).finds s.stable.value)) l.starts.items);
  starts : l.place + length l.starts.items ≡ l.count;
  links : l.place + length l.links.items ≡ l.count;
  tasks : All (λ t. IsNodeTask t.node (g.N.Recorder.own_log t.recorder) ((goal.StableRecord-dyn g (t.stable.vtable, t.stable.value)).finds t.stable.value)) l.tasks.items;
  begun : map (λ t. g.N.ActorRecorder.beginning t.recorder) l.tasks.items ++ map (λ s. g.N.ActorRecorder.beginning s.recorder) l.starts.items ≡ map (λ s. g.N.ActorRecorder.beginning s.recorder) l.fn.starts.items;
  linked : map (λ t. t.link) l.tasks.items ++ l.links.items ≡ l.fn.links.items;
}
