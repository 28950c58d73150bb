use Rattle.std.proofs.Common.{subst}
use Rattle.world_model.specs.ExactWorlds.{step}
use Rattle.world_model.specs.StepsOf.{Does}
use Rattle.world_machine.specs.Machines.{world_view}
use Rattle.world_machine.proofs.actors.Actors.step.Goals as goal

pub returns : goal.returns
returns g c =
    let s = c.self.inside in
    let e = c.args.event.now in
    subst (λ w. Does e (step w e) w c.take_step.result (world_view s.ballots c.take_step.new.nodes.items c.take_step.new.clients.items c.take_step.new.sent.items)) c.self.view_is c.take_step.ensures.does
