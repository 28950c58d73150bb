use Rattle.std.proofs.Common.{◌≡◌, ◌+◌, ◌<◌, length, map, sym, ◌∙◌, subst, arith}
use Rattle.node_threads.specs.Actors.{IsClientReady, AreClientsReady}
use Rattle.node_threads.specs.Tasks.{IsClientBerth}
use Rattle.node_threads.proofs.Lists.{first_client, rest_clients, one_fewer, all_and_one}
use Rattle.node_threads.proofs.Places.{one_more_named, one_more_linked, all_named, all_linked}
use Rattle.node_threads.proofs.session_tasks.session_tasks.Goals as goal

pub unreachable-requires : goal.unreachable-requires
unreachable-requires g c =
    let many : c.len-count.result ≡ length c.args.records.items = c.len-count.ensures ∙ c.args.records.ok.0 in
    c.in_default.ensures (omega arith, omega (arith, many, c.loop-place-test.true, c.requires.few))

pub session_task-requires : goal.session_task-requires
session_task-requires g c =
    let some : 0 < length c.loop-place.records.items = omega (arith, c.loop-place-test.true, c.loop-place.invariant.records) in
    let first = first_client (λ r. g.S.StableRecord.finds r) c.loop-place.book.opening c.loop-place.place c.loop-place.records.items c.remove-stable.result
    c.loop-place.invariant.ready some c.remove-stable.ensures.value in
    let named : c.loop-place.place + 1 ≡ c.in-Some.client = sym c.in-Some.ensures.1 in
    subst (λ n. IsClientReady c.loop-place.book.opening n (g.S.StableRecord.finds c.remove-stable.result)) named first

pub loop-place-preserved : goal.loop-place-preserved
loop-place-preserved g c =
    let some : 0 < length c.loop-place.records.items = omega (arith, c.loop-place-test.true, c.loop-place.invariant.records) in
    let rest = rest_clients (λ r. g.S.StableRecord.finds r) c.loop-place.book.opening c.loop-place.place c.loop-place.records.items c.remove-stable.new.self.items
    c.loop-place.invariant.ready some c.remove-stable.ensures.items in
    let task = c.in_ok-task.task in
    record {
      ready = subst (λ w. AreClientsReady (c.loop-place.place + 1) w (map (λ r. g.S.StableRecord.finds r) c.remove-stable.new.self.items)) (sym c.in_ok-task.ensures.opening) rest;
      records = one_fewer c.loop-place.records.items c.remove-stable.new.self.items c.loop-place.place c.len-count.result c.remove-stable.ensures.items some c.loop-place.invariant.records;
      links = one_fewer c.loop-place.links.items c.remove-link.new.self.items c.loop-place.place c.len-count.result c.remove-link.ensures.items
          (omega (arith, c.loop-place-test.true, c.loop-place.invariant.links)) c.loop-place.invariant.links;
      tasks = all_and_one (λ t. IsClientBerth c.args.book.now.table t.client c.args.book.now.opening.ballots t.berth (g.S.StableRecord.finds t.stable))
          c.loop-place.tasks.items c.push.new.self.items task c.loop-place.invariant.tasks
          (subst (λ w. IsClientBerth c.args.book.now.table task.client w.ballots task.berth (g.S.StableRecord.finds task.stable)) c.loop-place.invariant.opening
          (subst (λ b. IsClientBerth b task.client c.loop-place.book.opening.ballots task.berth (g.S.StableRecord.finds task.stable)) c.loop-place.invariant.table c.in_ok-task.ensures.task)) c.in-Ok.ensures.items;
      named = one_more_named (λ t. t.client) c.loop-place.tasks.items c.push.new.self.items task c.loop-place.place c.loop-place.invariant.named c.in-Ok.ensures.items (c.in_ok-task.ensures.client ∙ c.in-Some.ensures.1);
      linked = one_more_linked (λ t. t.link) c.loop-place.tasks.items c.push.new.self.items task c.loop-place.links.items c.remove-link.new.self.items c.args.links.items c.remove-link.result
          c.loop-place.invariant.linked c.in-Ok.ensures.items c.in_ok-task.ensures.link (omega (arith, c.loop-place-test.true, c.loop-place.invariant.links)) c.remove-link.ensures.value c.remove-link.ensures.items;
      table = c.in_ok-task.ensures.table ∙ c.loop-place.invariant.table;
      opening = c.in_ok-task.ensures.opening ∙ c.loop-place.invariant.opening;
    }

pub returns-clause-all_clients : goal.returns-clause-all_clients
returns-clause-all_clients g c =
    let many : c.len-count.result ≡ length c.args.records.items = c.len-count.ensures ∙ c.args.records.ok.0 in
    all_named (λ t. t.client) c.loop-place.tasks.items c.loop-place.place (length c.args.records.items) c.loop-place.invariant.named (omega (arith, many, c.loop-place-test.false, c.loop-place.auto.place-end))

pub returns-clause-links : goal.returns-clause-links
returns-clause-links g c =
    all_linked (λ t. t.link) c.loop-place.tasks.items c.loop-place.links.items c.args.links.items (omega (arith, c.loop-place-test.false, c.loop-place.invariant.links)) c.loop-place.invariant.linked
