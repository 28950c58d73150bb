use Rattle.std.proofs.Common.{◌≡◌, ◌⊎◌, Err, refl}
use Rattle.lock_messages.specs.declared.ids.Actor.TheVariants as actor
use Rattle.world_model.specs.declared.events.Age.TheVariants.{Old}
use Rattle.world_model.specs.declared.events.Event.TheVariants as event
use Rattle.world_model.specs.declared.events.StepFault.TheVariants as fault
use Rattle.world_model.specs.ExactWorlds.{step}
use Rattle.world_machine.specs.Going.{HasTaken, HasRaised}
use Rattle.world_machine.proofs.GoingFacts.{raised-one, node-rises-free, ok-all, err-all}
use Rattle.world_machine.proofs.ways.Ahead.raise_node.Goals as goal

pub returns-clause-raised : goal.returns-clause-raised
returns-clause-raised g c =
    let w = c.args.self.now.world in
    let old = c.args.self.now.events.items in
    let v = c.take.new.self.world in
    let new = c.take.new.self.events.items in
    ok-all c.take.result (HasTaken w old (event.Rise (actor.Node c.args.id) Old) v new) (HasRaised w old v new (λ x. x ≡ actor.Node c.args.id)) (raised-one w old (actor.Node c.args.id) v new c.soundness.ensures.sound) c.take.ensures.taken

pub returns-clause-memory : goal.returns-clause-memory
returns-clause-memory g c =
    let w = c.args.self.now.world in
    err-all c.take.result (λ f. (step w (event.Rise (actor.Node c.args.id) Old) ≡ Err f) ⊎ (f ≡ fault.Memory)) (λ f. f ≡ fault.Memory) (λ f. node-rises-free w c.args.id f (c.if-is_node_up.ensures.down refl)) c.take.ensures.refused
