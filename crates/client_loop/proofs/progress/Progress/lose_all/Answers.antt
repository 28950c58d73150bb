use Rattle.std.proofs.Common.{refl}
use Rattle.client_loop.proofs.NodeFacts.{alike_none, alike_on, gone_one, lose_others, lose_gone, lose_step, skips_below_one}
use Rattle.client_loop.proofs.progress.Progress.lose_all.Goals as goal

pub loop-number-init : goal.loop-number-init
loop-number-init c =
    let before = c.args.self.now in
    record {
      gone = λ n. gone_one before.gone n;
      skipped = skips_below_one before.core;
      alike = alike_none before.core;
      others = refl;
    }

pub loop-number-preserved : goal.loop-number-preserved
loop-number-preserved c =
    let before = c.loop-number.self in
    let after = c.lose.new.self in
    record {
      gone = λ n. lose_gone before after c.args.self.now.gone _ _ n c.in-Some.ensures.1 c.loop-number.auto.number c.lose.ensures.exact (c.loop-number.invariant.gone n);
      skipped = lose_step c.args.self.now.core before after _ _ c.in-Some.ensures.1 c.loop-number.auto.number c.lose.ensures.exact c.loop-number.invariant.skipped;
      alike = alike_on _ _ _ c.loop-number.invariant.alike c.lose.ensures.alike;
      others = lose_others c.args.self.now before after _ _ c.loop-number.invariant.others c.lose.ensures.exact;
    }
