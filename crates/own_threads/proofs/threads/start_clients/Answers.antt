use Rattle.std.proofs.Common.{◌≡◌, length, sym, ap, ◌∙◌, subst, rules, All}
use Rattle.std.specs.Vec.Iter.{into_iter_items}
use Rattle.std.proofs.Crossing.{crosses}
use denote.Param.Send.{sendable}
use Rattle.lock_messages.proofs.ids.ClientId.TheSendSync as client_id
use Rattle.vote_weights.proofs.lists.BallotList.TheSendSync as ballots
use Rattle.lossy_link.proofs.channel_links.ChannelLink.TheSendSync as link
use Rattle.own_threads.specs.Tasks.{IsClientTask}
use Rattle.own_threads.proofs.Promises.{one_more_started, all_started}
use Rattle.own_threads.proofs.Taking.{first_of, rest_of}
use Rattle.own_threads.proofs.threads.start_clients.Goals as goal

-- what the thread is given may go to it, by the bounds of the function
pub spawn_with-requires-send-F : goal.spawn_with-requires-send-F
spawn_with-requires-send-F g c κs within =
    let recorder = c.type_bounds.send-C in
    let stable = c.type_bounds.send-S in
    let handle = c.type_bounds.send-R in
    let work = c.type_bounds.sync-J in
    search (sendable, crosses, client_id.the_send, ballots.the_send, link.the_send) depth 40 fits 5000

pub loop-task-init : goal.loop-task-init
loop-task-init g c = record {
  can = tt;
  finite = tt;
  tasks = subst (All (λ t. IsClientTask t.client t.ballots (g.C.Recorder.own_log t.recorder) (g.S.StableRecord.finds t.stable))) (sym c.into_iter-task-iterator.ensures.into_iter_gives.0) c.requires;
  began = search rules;
}

pub spawn_with-requires-clause-runs : goal.spawn_with-requires-clause-runs
spawn_with-requires-clause-runs g c κs within =
    first_of c.in-Some.task (λ t. IsClientTask t.client t.ballots (g.C.Recorder.own_log t.recorder) (g.S.StableRecord.finds t.stable)) _ _ c.in-Some.ensures.steps.0 c.loop-task.invariant.tasks

pub loop-task-preserved : goal.loop-task-preserved
loop-task-preserved g c =
    let began = g.C.ActorRecorder.beginning in record {
      can = tt;
      finite = tt;
      tasks = rest_of c.in-Some.task (λ t. IsClientTask t.client t.ballots (g.C.Recorder.own_log t.recorder) (g.S.StableRecord.finds t.stable)) _ _ c.in-Some.ensures.steps.0 c.loop-task.invariant.tasks;
      began = one_more_started (λ t. began t.promise.recorder.value) (λ t. began t.recorder) c.loop-task.threads.items _ _ _ c.in-Ok.handle c.in-Some.task _
          c.loop-task.invariant.began c.in-Some.ensures.steps.0 c.in-Ok-push.ensures.items (ap (λ p. began p.recorder.value) c.in-Ok.ensures.ok ∙ ap began c.of-recorder.ensures);
    }

pub returns-clause-began : goal.returns-clause-began
returns-clause-began g c =
    let none : length (into_iter_items c.loop-task.task-iterator) ≡ 0 = sym c.loop-task.task-iterator.rest.ok.0 ∙ c.in-None.ensures.steps.0 in
    all_started (λ t. g.C.ActorRecorder.beginning t.promise.recorder.value) (λ t. g.C.ActorRecorder.beginning t.recorder) c.loop-task.threads.items _ _ c.loop-task.invariant.began none
