use Rattle.std.proofs.Common.{rules, ap, ◌∙◌}
use Rattle.world_actors.specs.Acting.{ActingNode}
use Rattle.world_actors.proofs.NodeFacts.{switched-acting}
use Rattle.world_actors.proofs.nodes.WorldNode.switch.Goals.{in-Ok, in-Err-switch}
use Rattle.world_actors.proofs.nodes.WorldNode.switch.Goals as goal

pub invariant_of-self : goal.invariant_of-self
invariant_of-self g c = elim c.match-switch.branch [
  | in-Ok w ↦
      let s = c.self.inside in
      switched-acting c.switch_is_allowed.ensures.same c.switch_is_allowed.ensures.compared s.core s.kept s.tried s.up c.args.problem c.switch.new.self c.self.invariant (ap (λ (v : ActingNode). v.part.phase) c.self.view_is ∙ c.in_default.ensures.idle) w.in-Ok.ensures.exact
  | in-Err-switch w ↦ search rules
]
