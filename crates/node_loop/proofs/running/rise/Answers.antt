use Rattle.lock_messages.specs.declared.ids.Actor.TheVariants as actor
use Rattle.world_model.specs.declared.events.Age.TheVariants.{Old}
use Rattle.node_loop.proofs.KeepFacts.{rises}
use Rattle.actor_steps.proofs.SendingFacts.{first_rise_sends_nothing}
use Rattle.node_loop.proofs.running.rise.Goals as goal

pub returns-in-Ok-clause-idle : goal.returns-in-Ok-clause-idle
returns-in-Ok-clause-idle g c =
    let core = c.in-Ok.ensures.risen in
    rises _ _ c.args.node c.requires.0 core.0 c.in_ok-found.found.items _ _ _ _ c.in-Ok.core c.one_spelling.ensures.nodes c.requires.1 c.in_ok-found.ensures.risen c.in_ok-found.ensures.found c.deref.ensures.value core.1 core.2

pub returns-in-Ok-clause-silent : goal.returns-in-Ok-clause-silent
returns-in-Ok-clause-silent g c = first_rise_sends_nothing _ _ (actor.Node c.args.node) Old c.requires.1.unused c.in_ok-found.ensures.risen
