use Rattle.operator_cli.proofs.answers.take_event.Goals as goal

pub push_effect-requires : goal.push_effect-requires
push_effect-requires g c = (c.said_numbers_fit.ensures c.args.world.now _ c.args.event.now _ c.in-Ok.ensures.exact).1
