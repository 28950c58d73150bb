use Rattle.std.proofs.Common.{◌<◌, ◌+◌, ap, ◌∙◌, arith}
use Rattle.lock_model.specs.Ballots.{node_count}
use Rattle.lock_messages.specs.declared.ids.Actor.TheVariants as actor
use Rattle.world_model.specs.declared.events.Age.TheVariants as age
use Rattle.world_model.specs.declared.events.Event.TheVariants as event
use Rattle.world_model.specs.declared.exact.ExactWorld.{ExactWorld}
use Rattle.world_model.specs.ExactWorlds.{after}
use Rattle.operator_cli.proofs.OpeningFacts.{node_rises}
use Rattle.operator_cli.proofs.raising.raise_nodes.Goals as goal

pub loop-count-preserved : goal.loop-count-preserved
loop-count-preserved g c =
    let left : c.loop-count.count < node_count c.args.settings.now.ballots = omega (arith, c.nodes-count-end.ensures.nodes) in
    c.in_ok-raise.ensures ∙ ap (λ n. after c.loop-count.world (event.Rise (actor.Node n) age.Old)) c.node_behind.ensures
    ∙ ap (λ (w : ExactWorld). after w (event.Rise (actor.Node (c.loop-count.count + 1)) age.Old)) c.loop-count.invariant
    ∙ node_rises c.args.settings.now c.loop-count.count left
