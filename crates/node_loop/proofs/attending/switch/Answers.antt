use Rattle.node_loop.proofs.SwitchFacts.{switched_stands}
use Rattle.node_loop.proofs.attending.switch.Goals as goal

pub returns-clause-switched : goal.returns-clause-switched
returns-clause-switched g c =
    switched_stands c.switch_is_allowed.ensures.same c.switch_is_allowed.ensures.compared _ _ c.args.core.now c.switch.new.self c.node.result c.args.problem c.in_ok-log_switch.field-0 c.in-Ok.changed _ _ c.requires c.node.ensures
    c.in_ok-log_switch.ensures.logged c.in-Ok.ensures.exact c.in-Ok.ensures.answer
