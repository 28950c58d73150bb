use Rattle.std.proofs.Common.{◌≡◌, ◌∙◌, take, sym, ap, subst, refl, length, arith}
use Rattle.std.proofs.lemmas.Option.{slice_get_read}
use Rattle.world_model.specs.ExactWorlds.{step}
use Rattle.world_model.specs.Forgetting.{forget, setting_of}
use Rattle.world_model.specs.StepsOf.{took, IsRefused}
use Rattle.world_model.specs.Worlds.{Run}
use Rattle.world_machine.proofs.RunFacts.{ran-next, run-next}
use Rattle.world_machine.proofs.world.World.run.Goals as goal

pub returns-in-Err-clause-exact : goal.returns-in-Err-clause-exact
returns-in-Err-clause-exact g c =
    let events = c.args.events.now in
    let k = c.loop-taken.taken in
    let e = c.index-events-taken.result in (
      e,
      slice_get_read events (length events) k e refl c.loop-taken-test.true c.index-events-taken.is,
      c.loop-taken.invariant.0 ∙ ap (took k) (sym c.in-Err.ensures.exact.1),
      subst (λ w. IsRefused e (step w e) c.in-Err.fault) (sym c.in-Err.ensures.exact.1) c.in-Err.ensures.exact.0,
    )

pub loop-taken-preserved : goal.loop-taken-preserved
loop-taken-preserved g c =
    let events = c.args.events.now in
    let k = c.loop-taken.taken in
    let e = c.index-events-taken.result in
    let w = c.args.self.now in
    let v = c.loop-taken.self in (
      ran-next events k e w v c.step.new.self c.in_default.field-0 c.loop-taken-test.true c.index-events-taken.is c.loop-taken.invariant.0 c.in_default.ensures.exact,
      run-next events k e w v c.step.new.self c.loop-taken-test.true c.index-events-taken.is c.loop-taken.invariant.2 c.loop-taken.invariant.1 c.in_default.ensures.allowed,
      c.step.ensures.setting ∙ c.loop-taken.invariant.2,
    )

pub returns-clause-allowed : goal.returns-clause-allowed
returns-clause-allowed g c =
    let w = c.args.self.now in
    let all : c.loop-taken.taken ≡ length c.args.events.now = omega (arith, c.loop-taken-test.false, c.loop-taken.auto.taken-end) in
    subst (λ k. Run (setting_of w) (forget w) (take k c.args.events.now) (forget c.loop-taken.self)) all c.loop-taken.invariant.1
