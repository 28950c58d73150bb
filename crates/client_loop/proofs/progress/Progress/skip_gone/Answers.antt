use Rattle.std.proofs.Common.{refl}
use Rattle.client_loop.proofs.NodeFacts.{alike_none, alike_on, skip_others, skip_step, skips_gone_one}
use Rattle.client_loop.proofs.progress.Progress.skip_gone.Goals as goal

pub loop-number-init : goal.loop-number-init
loop-number-init c =
    let before = c.args.self.now in
    record {
      skipped = skips_gone_one before.gone before.core;
      alike = alike_none before.core;
      others = refl;
    }

pub loop-number-preserved : goal.loop-number-preserved
loop-number-preserved c =
    let before = c.loop-number.self in
    let after = c.skip_if_gone.new.self in
    record {
      skipped = skip_step c.args.self.now before after _ _ c.in-Some.ensures.1 c.loop-number.auto.number c.loop-number.invariant.others c.skip_if_gone.ensures.exact c.loop-number.invariant.skipped;
      alike = alike_on _ _ _ c.loop-number.invariant.alike c.skip_if_gone.ensures.alike;
      others = skip_others c.args.self.now before after _ c.loop-number.invariant.others c.skip_if_gone.ensures.exact;
    }
