use Rattle.std.proofs.Common.{◌≡◌, ◌<◌, Some, slice_get, refl, sym, ◌∙◌, subst, arith}
use Rattle.std.specs.Option.{IsSome}
use Rattle.stable_record.specs.Lines.{waits_for, clients_of, count_live}
use Rattle.stable_record.proofs.QuestionFacts.{before-announced}
use Rattle.voter_core.proofs.QueueFacts.{QueueSettled, queue-first, queue-holds, queue-stays, name-at}
use Rattle.voter_core.proofs.settling.settle_resource.Goals.{then-not-settle_client, else-not-settle_client}
use Rattle.voter_core.proofs.settling.settle_resource.Goals as goal

pub loop-turn-init : goal.loop-turn-init
loop-turn-init g c = record {
  queue = queue-first c.args.problem c.args.node c.args.resource.now c.args.entries.now c.args.replies.now.items c.len-len.ensures.once c.requires.others;
  left = omega (arith, c.requires.waiting);
  few = omega arith;
  room = omega (arith, c.requires.room);
  indexed = λ a h. h;
}

pub unwrap-client-requires : goal.unwrap-client-requires
unwrap-client-requires g c =
    let es = c.loop-turn.entries in
    let h = c.loop-turn.invariant.indexed c.requires.indexed.0 c.requires.indexed.1 in
    let below : c.loop-turn.place < count_live (waits_for c.args.resource.now) es = omega (arith, c.loop-turn.invariant.left, c.loop-turn-test.true) in
    subst IsSome (sym (c.waiting_at.ensures c.requires.indexed.0 es h ∙ before-announced c.requires.indexed.0 es c.args.resource.now c.loop-turn.place below ∙ (name-at (waits_for c.args.resource.now) es c.loop-turn.place below).1)) refl

pub overflow_add-place : goal.overflow_add-place
overflow_add-place g c = omega (arith, c.loop-turn.invariant.few, c.loop-turn-test.true, c.ranges.waiting.fits)

pub loop-turn-preserved : goal.loop-turn-preserved
loop-turn-preserved g c =
    let p = c.args.problem in
    let x = c.args.resource.now in
    let es = c.loop-turn.entries in
    let inv = c.loop-turn.invariant in
    let e = c.settle_client.ensures in
    let below : c.loop-turn.place < count_live (waits_for c.args.resource.now) c.loop-turn.entries = omega (arith, c.loop-turn.invariant.left, c.loop-turn-test.true) in
    let at : slice_get (clients_of (waits_for c.args.resource.now) c.loop-turn.entries) c.loop-turn.place ≡ Some c.unwrap-client.result =
    sym (c.waiting_at.ensures c.requires.indexed.0 c.loop-turn.entries (c.loop-turn.invariant.indexed c.requires.indexed.0 c.requires.indexed.1)
    ∙ before-announced c.requires.indexed.0 c.loop-turn.entries c.args.resource.now c.loop-turn.place below) ∙ c.unwrap-client.ensures in
    elim c.if-not-settle_client.branch [
      | then-not-settle_client w ↦
          let q = queue-stays p c.args.node x c.args.entries.now c.args.replies.now.items c.loop-turn.place c.unwrap-client.result es c.loop-turn.replies.items inv.queue e.once at c.settle_client.new.entries c.settle_client.new.replies.items e.entries e.replies (sym e.answer ∙ w.if-not-settle_client.true) in
          record {
            queue = subst (λ k. QueueSettled p c.args.node x c.args.entries.now c.args.replies.now.items k c.settle_client.new.entries c.settle_client.new.replies.items) (sym w.place-is) q.0;
            left = omega (arith, w.place-is, q.1, c.loop-turn.invariant.left);
            few = omega (arith, w.place-is, c.loop-turn.invariant.few);
            room = omega (arith, c.settle_client.ensures.room.0, c.settle_client.ensures.room.1, c.loop-turn.invariant.room);
            indexed = λ a h. c.settle_client.ensures.indexed a (c.loop-turn.invariant.indexed a h);
          }
      | else-not-settle_client w ↦
          let q = queue-holds p c.args.node x c.args.entries.now c.args.replies.now.items c.loop-turn.place c.unwrap-client.result es c.loop-turn.replies.items inv.queue e.once at c.settle_client.new.entries c.settle_client.new.replies.items e.entries e.replies (sym e.answer ∙ w.if-not-settle_client.false) in
          record {
            queue = subst (λ k. QueueSettled p c.args.node x c.args.entries.now c.args.replies.now.items k c.settle_client.new.entries c.settle_client.new.replies.items) (sym w.place-is) q.0;
            left = omega (arith, w.place-is, q.1, c.loop-turn.invariant.left);
            few = omega (arith, w.place-is, c.loop-turn.invariant.few);
            room = omega (arith, c.settle_client.ensures.room.0, c.settle_client.ensures.room.1, c.loop-turn.invariant.room);
            indexed = λ a h. c.settle_client.ensures.indexed a (c.loop-turn.invariant.indexed a h);
          }
    ]
