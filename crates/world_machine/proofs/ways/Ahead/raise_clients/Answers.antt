use Rattle.lock_messages.specs.declared.ids.Actor.TheVariants as actor
use Rattle.world_machine.proofs.GoingFacts.{raised-next}
use Rattle.world_machine.proofs.ways.Ahead.raise_clients.Goals as goal

pub loop-place-preserved : goal.loop-place-preserved
loop-place-preserved g c =
    raised-next actor.Client c.args.self.now.world c.args.self.now.events.items c.loop-place.self.world c.loop-place.self.events.items c.raise_client.new.self.world c.raise_client.new.self.events.items c.loop-place.place c.client_at.result c.soundness.ensures.sound c.client_at.ensures c.loop-place.invariant c.in_default.ensures.raised
