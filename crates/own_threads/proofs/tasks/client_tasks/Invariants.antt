use Rattle.std.proofs.Common.{◌≡◌, ◌+◌, ◌++◌, length, map, All}
use Rattle.own_threads.specs.Tasks.{IsClientTask, AreClientsReady}
use Rattle.own_threads.proofs.tasks.client_tasks.Given as goal

-- the clients that are left are ready, and those before have their tasks
abbrev pub invariant-loop-place : goal.invariant-loop-place
invariant-loop-place g l = record {
  ready : AreClientsReady l.fn.ballots (l.place + 1) (map (λ s. (g.C.Recorder.own_log s.recorder, g.S.StableRecord.finds s.stable)) l.starts.items);
  starts : l.place + length l.starts.items ≡ l.count;
  links : l.place + length l.links.items ≡ l.count;
  tasks : All (λ t. IsClientTask t.client t.ballots (g.C.Recorder.own_log t.recorder) (g.S.StableRecord.finds t.stable)) l.tasks.items;
  begun : map (λ t. g.C.ActorRecorder.beginning t.recorder) l.tasks.items ++ map (λ s. g.C.ActorRecorder.beginning s.recorder) l.starts.items ≡ map (λ s. g.C.ActorRecorder.beginning s.recorder) l.fn.starts.items;
  linked : map (λ t. t.link) l.tasks.items ++ l.links.items ≡ l.fn.links.items;
}
