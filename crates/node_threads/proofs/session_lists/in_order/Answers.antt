use Rattle.std.proofs.Common.{◌≡◌, ◌≢◌, ◌⊎◌, ◌+◌, ◌∙◌, All, subst, arith}
use Rattle.lock_model.specs.Decisions.{Among}
use Rattle.node_threads.proofs.Sorting.{sorting_begins, sorting_takes, none_named}
use Rattle.node_threads.proofs.session_lists.in_order.Goals as goal

pub loop-place-init : goal.loop-place-init
loop-place-init g c = sorting_begins (λ e. e.client) c.args.ends.items c.new-ordered.result.items c.args.clients c.new-ordered.ensures.items c.requires.whole

-- the end of the next client is left
pub unreachable-requires-in_default-take_end : goal.unreachable-requires-in_default-take_end
unreachable-requires-in_default-take_end g c =
    let place = c.loop-place.place in
    let left = c.loop-place.left.items in
    let named : c.in-Some.client ≡ place + 1 = c.in-Some.ensures.1 in
    none_named (λ e. e.client) (place + 1) left (subst (λ n. All (λ e. e.client ≢ n) left) named c.in_default-take_end.ensures.none)
    (c.loop-place.invariant.rest (place + 1) (omega arith) (omega (arith, c.loop-place-test.true)))

pub loop-place-preserved : goal.loop-place-preserved
loop-place-preserved g c =
    let place = c.loop-place.place in
    let left = c.loop-place.left.items in
    let named : c.in-Some.client ≡ place + 1 = c.in-Some.ensures.1 in
    let taken = c.in-Some-take_end.ensures in
    sorting_takes (λ e. e.client) c.args.ends.items place c.args.clients c.loop-place.ordered.items c.push.new.self.items left c.take_end.new.ends.items c.in-Some-take_end.end c.loop-place.invariant (taken.some.0 ∙ named)
    taken.some.1 c.in-Ok.ensures.items taken.left (subst (λ n. All (λ e. (e.client ≡ n) ⊎ Among e c.take_end.new.ends.items) left) named taken.others)
