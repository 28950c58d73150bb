use Rattle.std.proofs.Common.{subst}
use Rattle.world_model.specs.ExactWorlds.{step}
use Rattle.world_model.specs.Forgetting.{IsSound}
use Rattle.world_model.specs.StepsOf.{Does}
use Rattle.world_machine.specs.Machines.{world_view}
use Rattle.world_machine.proofs.TurnFacts.{does-sound, does-allowed, does-setting}
use Rattle.world_machine.proofs.world.World.step.Goals as goal

pub returns-clause-exact : goal.returns-clause-exact
returns-clause-exact g c =
    let s = c.self.inside in
    let e = c.args.event.now in
    subst (λ w. Does e (step w e) w c.take_step.result (world_view s.ballots c.take_step.new.nodes.items c.take_step.new.clients.items c.take_step.new.sent.items)) c.self.view_is c.take_step.ensures.does

pub returns-clause-allowed : goal.returns-clause-allowed
returns-clause-allowed g c =
    does-allowed c.exact_steps_are_allowed.ensures.steps c.args.event.now c.args.self.now _ c.take_step.result (subst IsSound c.self.view_is c.self.invariant.sound) (returns-clause-exact g c)

pub returns-clause-setting : goal.returns-clause-setting
returns-clause-setting g c =
    does-setting c.exact_steps_are_allowed.ensures.steps c.args.event.now c.args.self.now _ c.take_step.result (subst IsSound c.self.view_is c.self.invariant.sound) (returns-clause-exact g c)

-- each step leaves a sound world
pub invariant_of-self : goal.invariant_of-self
invariant_of-self g c =
    let s = c.self.inside in
    record {
      order = c.take_step.ensures.order;
      sound = does-sound c.exact_steps_are_allowed.ensures.sound c.args.event.now (world_view s.ballots s.nodes.items s.clients.items s.sent.items)
          (world_view s.ballots c.take_step.new.nodes.items c.take_step.new.clients.items c.take_step.new.sent.items) c.take_step.result c.self.invariant.sound c.take_step.ensures.does;
    }
