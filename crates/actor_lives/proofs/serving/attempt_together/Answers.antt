use Rattle.std.proofs.Common.{rules}
use Rattle.std.specs.Result.{IfErr}
use Rattle.actor_lives.specs.Serving.{IsOverBy}
use Rattle.actor_lives.proofs.ServingFacts.{inside_over}
use Rattle.actor_lives.proofs.serving.attempt_together.Goals as goal

pub returns-in-Ok-clause-over : goal.returns-in-Ok-clause-over
returns-in-Ok-clause-over g c =
    let over : IfErr c.ended_inside.result (λ f. IsOverBy f c.args.session.now c.leave-left.new.self.0) =
    inside_over c.hold-stayed.result c.leave-left.result c.ended_inside.result _ _ _ _ _ _ c.in-Ok.ensures.entered c.hold-stayed.ensures.on c.hold-stayed.ensures.over c.leave-left.ensures.settles c.leave-left.ensures.faulted
    c.leave-left.ensures.after c.leave-left.ensures.ended c.ended_inside.ensures.over in
    search (over, rules)
