use Rattle.std.proofs.Common.{◌≡◌, length, sym, ap, ◌∙◌}
use Rattle.std.specs.Vec.Iter.{into_iter_items}
use Rattle.std.proofs.Crossing.{crosses, dyn_box_send}
use denote.Param.Send.{sendable}
use denote.Param.Sent.{Sends}
use Rattle.lock_messages.proofs.ids.ClientId.TheSendSync as client_id
use Rattle.vote_weights.proofs.lists.BallotList.TheSendSync as ballots
use Rattle.event_lines.proofs.wishes.Wish.TheSendSync as wish
use Rattle.history_book.proofs.books.Berth.TheSendSync as berth
use Rattle.lossy_link.proofs.channel_links.ChannelLink.TheSendSync as link
use Rattle.book_recorders.proofs.named.Named.TheSendSync as named
use Rattle.node_threads.specs.Ends.{with_wishes}
use Rattle.node_threads.specs.Tasks.{IsClientTask}
use Rattle.node_threads.proofs.Promises.{one_more_started, all_started}
use Rattle.node_threads.proofs.Taking.{first_of, rest_of}
use Rattle.node_threads.proofs.threads.start_clients.Goals as goal

-- a client's record may go to its thread, as its box says
pub spawn_with-requires-send-F : goal.spawn_with-requires-send-F
spawn_with-requires-send-F g c κs within =
    let records : Sends g.dyn-1.0 = g.dyn-1.2 in
    let name = c.type_bounds.send-B in
    let book = c.type_bounds.send-K in
    let handle = c.type_bounds.send-R in
    let gate = c.type_bounds.sync-G in
    search (sendable, crosses, dyn_box_send, client_id.the_send, ballots.the_send, wish.the_send, berth.the_send, link.the_send, named.the_send) depth 40 fits 5000

pub spawn_with-requires-clause-runs : goal.spawn_with-requires-clause-runs
spawn_with-requires-clause-runs g c κs within =
    first_of c.in-Some.task (λ t. IsClientTask g.B.BookName.table t.client t.ballots t.wishes.items t.berth ((goal.StableRecord-dyn g (t.stable.vtable, t.stable.value)).finds t.stable.value)) _ _
    c.in-Some.ensures.steps.0 c.loop-task.invariant.tasks

pub loop-task-preserved : goal.loop-task-preserved
loop-task-preserved g c =
    let task = c.in-Some.task in
    let handle = c.in-Ok.handle in
    let same : with_wishes handle.promise.client handle.promise.wishes.value.items handle.promise.berth.value.table ≡ with_wishes task.client task.wishes.items task.berth.table =
    ap (λ p. with_wishes p.client p.wishes.value.items p.berth.value.table) c.in-Ok.ensures.ok ∙ ap (λ v. with_wishes task.client v.items c.of-berth.result.value.table) c.of-wishes.ensures ∙ ap (λ k. with_wishes task.client task.wishes.items k.table) c.of-berth.ensures in record {
      can = tt;
      finite = tt;
      tasks = rest_of task (λ t. IsClientTask g.B.BookName.table t.client t.ballots t.wishes.items t.berth ((goal.StableRecord-dyn g (t.stable.vtable, t.stable.value)).finds t.stable.value)) _ _
          c.in-Some.ensures.steps.0 c.loop-task.invariant.tasks;
      named = one_more_started (λ t. with_wishes t.promise.client t.promise.wishes.value.items t.promise.berth.value.table) (λ t. with_wishes t.client t.wishes.items t.berth.table) c.loop-task.threads.items _ _ _ handle task _
          c.loop-task.invariant.named c.in-Some.ensures.steps.0 c.in-Ok-push.ensures.items same;
    }

pub returns-clause-named : goal.returns-clause-named
returns-clause-named g c =
    let none : length (into_iter_items c.loop-task.task-iterator) ≡ 0 = sym c.loop-task.task-iterator.rest.ok.0 ∙ c.in-None.ensures.steps.0 in
    all_started (λ t. with_wishes t.promise.client t.promise.wishes.value.items t.promise.berth.value.table) (λ t. with_wishes t.client t.wishes.items t.berth.table) c.loop-task.threads.items _ _ c.loop-task.invariant.named none
