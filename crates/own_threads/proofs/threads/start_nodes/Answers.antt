use Rattle.std.proofs.Common.{◌≡◌, length, sym, ap, ◌∙◌}
use Rattle.std.specs.Vec.Iter.{into_iter_items}
use Rattle.std.proofs.Crossing.{crosses, dyn_box_send}
use denote.Param.Send.{sendable}
use denote.Param.Sent.{Sends}
use Rattle.lock_messages.proofs.ids.NodeId.TheSendSync as node_id
use Rattle.lossy_link.proofs.channel_links.ChannelLink.TheSendSync as link
use Rattle.own_threads.specs.Tasks.{IsNodeTask}
use Rattle.own_threads.proofs.Promises.{one_more_started, all_started}
use Rattle.own_threads.proofs.Taking.{first_of, rest_of}
use Rattle.own_threads.proofs.threads.start_nodes.Goals as goal

-- a node's record may go to its thread, as its box says
pub spawn_with-requires-send-F : goal.spawn_with-requires-send-F
spawn_with-requires-send-F g c κs within =
    let records : Sends g.dyn-1.0 = g.dyn-1.2 in
    let recorder = c.type_bounds.send-N in
    let handle = c.type_bounds.send-R in
    search (sendable, crosses, dyn_box_send, node_id.the_send, link.the_send) depth 40 fits 5000

pub spawn_with-requires-clause-runs : goal.spawn_with-requires-clause-runs
spawn_with-requires-clause-runs g c κs within =
    first_of c.in-Some.task (λ t. IsNodeTask t.node (g.N.Recorder.own_log t.recorder) ((goal.StableRecord-dyn g (t.stable.vtable, t.stable.value)).finds t.stable.value)) _ _ c.in-Some.ensures.steps.0 c.loop-task.invariant.tasks

pub loop-task-preserved : goal.loop-task-preserved
loop-task-preserved g c =
    let began = g.N.ActorRecorder.beginning in record {
      can = tt;
      finite = tt;
      tasks = rest_of c.in-Some.task (λ t. IsNodeTask t.node (g.N.Recorder.own_log t.recorder) ((goal.StableRecord-dyn g (t.stable.vtable, t.stable.value)).finds t.stable.value)) _ _ c.in-Some.ensures.steps.0 c.loop-task.invariant.tasks;
      began = one_more_started (λ t. began t.promise.recorder.value) (λ t. began t.recorder) c.loop-task.threads.items _ _ _ c.in-Ok.handle c.in-Some.task _
          c.loop-task.invariant.began c.in-Some.ensures.steps.0 c.in-Ok-push.ensures.items (ap (λ p. began p.recorder.value) c.in-Ok.ensures.ok ∙ ap began c.of-recorder.ensures);
    }

pub returns-clause-began : goal.returns-clause-began
returns-clause-began g c =
    let none : length (into_iter_items c.loop-task.task-iterator) ≡ 0 = sym c.loop-task.task-iterator.rest.ok.0 ∙ c.in-None.ensures.steps.0 in
    all_started (λ t. g.N.ActorRecorder.beginning t.promise.recorder.value) (λ t. g.N.ActorRecorder.beginning t.recorder) c.loop-task.threads.items _ _ c.loop-task.invariant.began none
