use Rattle.std.proofs.Common.{◌<◌, ◌+◌, ap, ◌∙◌, arith}
use Rattle.lock_model.specs.Ballots.{node_count}
use Rattle.lock_messages.specs.declared.ids.Actor.TheVariants as actor
use Rattle.world_model.specs.declared.events.Age.TheVariants as age
use Rattle.world_model.specs.declared.events.Event.TheVariants as event
use Rattle.world_model.specs.declared.exact.ExactWorld.{ExactWorld}
use Rattle.world_model.specs.ExactWorlds.{after}
use Rattle.operator_cli.proofs.OpeningFacts.{client_rises}
use Rattle.operator_cli.proofs.raising.raise_clients.Goals as goal

pub loop-count-preserved : goal.loop-count-preserved
loop-count-preserved g c =
    let left : c.loop-count.count < c.args.settings.now.clients = omega arith in
    c.in_ok-raise.ensures ∙ ap (λ n. after c.loop-count.world (event.Rise (actor.Client n) age.Old)) c.client_behind.ensures
    ∙ ap (λ (w : ExactWorld). after w (event.Rise (actor.Client (c.loop-count.count + 1)) age.Old)) c.loop-count.invariant
    ∙ client_rises c.args.settings.now (node_count c.args.settings.now.ballots) c.loop-count.count left
