use Rattle.std.proofs.Common.{arith, Bool, slice_index_or, false, ◌||◌, ap, ◌∙◌, refl}
use Rattle.service_folders.proofs.PartFacts.{one_more, none_yet, all_marked}
use Rattle.service_folders.proofs.parts.mark.Goals as goal

pub loop-number-init : goal.loop-number-init
loop-number-init c = (λ none. refl, λ n. none_yet (slice_index_or c.args.room.now n false) c.args.first n)

pub loop-number-preserved : goal.loop-number-preserved
loop-number-preserved c =
    let at = c.loop-number in (
      λ none. absurd (omega (arith, c.loop-number-test.true, at.invariant.0 none, none)),
      λ n. one_more at.room c.args.first at.number n (slice_index_or c.args.room.now n false) (omega (arith, at.auto.room, c.loop-number-test.true, c.requires)) (omega (arith, at.auto.number)) (at.invariant.1 n),
    )

pub returns : goal.returns
returns c n =
    let at = c.loop-number in
    at.invariant.1 n
    ∙ ap (λ (t : Bool). slice_index_or c.args.room.now n false || t) (all_marked c.args.first c.args.last at.number n (omega (arith, c.loop-number-test.false)) at.auto.number-end at.invariant.0)
