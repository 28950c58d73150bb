use Rattle.std.proofs.Common.{◌≡◌, ◌+◌, ◌++◌, length, refl, sym, ap, ◌∙◌, subst, arith}
use Rattle.std.specs.Option.{IsSome, option_map}
use Rattle.lock_model.specs.declared.entries.Entry.{Entry}
use Rattle.voter_core.specs.Queues.{settle_one, told_one}
use Rattle.voter_core.proofs.AllFacts.{all-first, all-next, all-many, named-at}
use Rattle.voter_core.proofs.EntryFacts.{some-at}
use Rattle.voter_core.proofs.settling.settle_all.Goals as goal

pub loop-place-init : goal.loop-place-init
loop-place-init g c = record {
  all = all-first c.args.problem c.args.node c.args.entries.now c.args.replies.now.items c.len-many.ensures.once;
  room = omega (arith, c.requires.room);
  indexed = λ a h. h;
}

pub unwrap-client-requires : goal.unwrap-client-requires
unwrap-client-requires g c =
    let es = c.loop-place.entries in
    let size : length c.loop-place.entries ≡ length c.args.entries.now = all-many c.args.problem c.args.node c.args.entries.now c.args.replies.now.items c.loop-place.place c.loop-place.entries c.loop-place.replies.items c.loop-place.invariant.all in
    let e = some-at es c.loop-place.place (omega (arith, size, c.loop-place-test.true, c.len-many.ensures.len)) in
    subst IsSome (sym (c.client_at.ensures ∙ ap (option_map (λ (x : Entry). x.client)) e.1)) refl

pub settle_client-requires-clause-room : goal.settle_client-requires-clause-room
settle_client-requires-clause-room g c = omega (arith, c.loop-place.invariant.room, c.loop-place-test.true, c.len-many.ensures.len)

pub settle_client-requires-clause-indexed : goal.settle_client-requires-clause-indexed
settle_client-requires-clause-indexed g c = (c.requires.indexed.0, c.loop-place.invariant.indexed c.requires.indexed.0 c.requires.indexed.1)

pub loop-place-preserved : goal.loop-place-preserved
loop-place-preserved g c =
    let p = c.args.problem in
    let n = c.args.node in
    let es = c.loop-place.entries in
    let e = named-at es c.loop-place.place c.unwrap-client.result (sym c.client_at.ensures ∙ c.unwrap-client.ensures) in
    record {
      all = all-next p n c.args.entries.now c.args.replies.now.items c.loop-place.place es c.loop-place.replies.items c.loop-place.invariant.all e.0 e.1
          c.settle_client.new.entries c.settle_client.new.replies.items
          (c.settle_client.ensures.entries ∙ ap (λ k. settle_one p k es) (sym e.2))
          (c.settle_client.ensures.replies ∙ ap (λ k. c.loop-place.replies.items ++ told_one p n k es) (sym e.2));
      room = omega (arith, c.settle_client.ensures.room.0, c.settle_client.ensures.room.1, c.loop-place.invariant.room);
      indexed = λ a h. c.settle_client.ensures.indexed a (c.loop-place.invariant.indexed a h);
    }
