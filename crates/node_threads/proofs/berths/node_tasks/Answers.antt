use Rattle.std.proofs.Common.{◌≡◌, ◌+◌, ◌<◌, length, map, sym, ◌∙◌, subst, arith}
use Rattle.node_threads.specs.Actors.{IsNodeReady, AreNodesReady}
use Rattle.node_threads.specs.Tasks.{IsNodeTask}
use Rattle.node_threads.proofs.Lists.{first_node, rest_nodes, one_fewer, all_and_one}
use Rattle.node_threads.proofs.Places.{one_more_named, one_more_linked, all_named, all_linked}
use Rattle.node_threads.proofs.berths.node_tasks.Goals as goal

pub unreachable-requires : goal.unreachable-requires
unreachable-requires g c =
    let many : c.len-count.result ≡ length c.args.pairs.items = c.len-count.ensures ∙ c.args.pairs.ok.0 in
    c.in_default.ensures (omega arith, omega (arith, many, c.loop-place-test.true, c.requires.few))

pub node_task-requires : goal.node_task-requires
node_task-requires g c =
    let others : 0 < length c.loop-place.records.items = omega (arith, c.loop-place-test.true, c.loop-place.invariant.records) in
    let first = first_node (λ r. (goal.StableRecord-dyn g (r.vtable, r.value)).finds r.value)
    c.loop-place.book.opening c.loop-place.place c.loop-place.records.items c.remove-stable.result c.loop-place.invariant.ready others c.remove-stable.ensures.value in
    let named : c.loop-place.place + 1 ≡ c.in-Some.node = sym c.in-Some.ensures.1 in
    subst (λ n. IsNodeReady c.loop-place.book.opening n
    ((goal.StableRecord-dyn g (c.remove-stable.result.vtable, c.remove-stable.result.value)).finds c.remove-stable.result.value)) named first

pub loop-place-preserved : goal.loop-place-preserved
loop-place-preserved g c =
    let some : 0 < length c.loop-place.pairs.items = omega (arith, c.loop-place-test.true, c.loop-place.invariant.pairs) in
    let others : 0 < length c.loop-place.records.items = omega (arith, c.loop-place-test.true, c.loop-place.invariant.records) in
    let rest = rest_nodes (λ r. (goal.StableRecord-dyn g (r.vtable, r.value)).finds r.value)
    c.loop-place.book.opening c.loop-place.place c.loop-place.records.items c.remove-stable.new.self.items c.loop-place.invariant.ready others c.remove-stable.ensures.items in
    record {
      ready = subst (λ w. AreNodesReady (c.loop-place.place + 1) w
          (map (λ r. (goal.StableRecord-dyn g (r.vtable, r.value)).finds r.value) c.remove-stable.new.self.items)) (sym c.in_ok-task.ensures.opening) rest;
      pairs = one_fewer c.loop-place.pairs.items c.remove-policies.new.self.items c.loop-place.place c.len-count.result c.remove-policies.ensures.items some c.loop-place.invariant.pairs;
      records = one_fewer c.loop-place.records.items c.remove-stable.new.self.items c.loop-place.place c.len-count.result c.remove-stable.ensures.items others c.loop-place.invariant.records;
      links = one_fewer c.loop-place.links.items c.remove-link.new.self.items c.loop-place.place c.len-count.result c.remove-link.ensures.items
          (omega (arith, c.loop-place-test.true, c.loop-place.invariant.links)) c.loop-place.invariant.links;
      tasks = all_and_one (λ t. IsNodeTask c.args.book.now.table t.node t.berth
          ((goal.StableRecord-dyn g (t.stable.vtable, t.stable.value)).finds t.stable.value)) c.loop-place.tasks.items c.push.new.self.items c.in_ok-task.task c.loop-place.invariant.tasks
          (subst (λ b. IsNodeTask b c.in_ok-task.task.node c.in_ok-task.task.berth
          ((goal.StableRecord-dyn g (c.in_ok-task.task.stable.vtable, c.in_ok-task.task.stable.value)).finds c.in_ok-task.task.stable.value)) c.loop-place.invariant.table c.in_ok-task.ensures.task) c.in-Ok.ensures.items;
      named = one_more_named (λ t. t.node) c.loop-place.tasks.items c.push.new.self.items c.in_ok-task.task c.loop-place.place c.loop-place.invariant.named c.in-Ok.ensures.items (c.in_ok-task.ensures.node ∙ c.in-Some.ensures.1);
      linked = one_more_linked (λ t. t.link) c.loop-place.tasks.items c.push.new.self.items c.in_ok-task.task c.loop-place.links.items c.remove-link.new.self.items c.args.links.items c.remove-link.result
          c.loop-place.invariant.linked c.in-Ok.ensures.items c.in_ok-task.ensures.link (omega (arith, c.loop-place-test.true, c.loop-place.invariant.links)) c.remove-link.ensures.value c.remove-link.ensures.items;
      table = c.in_ok-task.ensures.table ∙ c.loop-place.invariant.table;
      opening = c.in_ok-task.ensures.opening ∙ c.loop-place.invariant.opening;
    }

pub returns-clause-all_nodes : goal.returns-clause-all_nodes
returns-clause-all_nodes g c =
    let many : c.len-count.result ≡ length c.args.pairs.items = c.len-count.ensures ∙ c.args.pairs.ok.0 in
    all_named (λ t. t.node) c.loop-place.tasks.items c.loop-place.place (length c.args.pairs.items) c.loop-place.invariant.named (omega (arith, many, c.loop-place-test.false, c.loop-place.auto.place-end))

pub returns-clause-links : goal.returns-clause-links
returns-clause-links g c =
    all_linked (λ t. t.link) c.loop-place.tasks.items c.loop-place.links.items c.args.links.items (omega (arith, c.loop-place-test.false, c.loop-place.invariant.links)) c.loop-place.invariant.linked
