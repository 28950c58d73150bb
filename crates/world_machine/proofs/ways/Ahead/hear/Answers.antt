use Rattle.std.proofs.Common.{◌≡◌, ◌⊎◌, Err, inl}
use Rattle.world_model.specs.declared.events.Event.TheVariants as event
use Rattle.world_model.specs.declared.events.StepFault.TheVariants as fault
use Rattle.world_model.specs.declared.ways.Move.TheVariants.{HearFrom}
use Rattle.world_model.specs.ExactWorlds.{step}
use Rattle.world_model.specs.ExactWays.{IsStuck, stuck_unheard}
use Rattle.world_machine.specs.Going.{HasTaken, HasMade}
use Rattle.world_machine.proofs.GoingFacts.{hear-made, hear-stuck, ok-all, err-all}
use Rattle.world_machine.proofs.ways.Ahead.hear.Goals as goal

pub returns-in-Some-clause-made : goal.returns-in-Some-clause-made
returns-in-Some-clause-made g c =
    let a = c.args.want.now in
    let w = c.args.self.now.world in
    let old = c.args.self.now.events.items in
    let v = c.take.new.self.world in
    let new = c.take.new.self.events.items in
    let k = c.in-Some.number in
    ok-all c.take.result (HasTaken w old (event.Hear a.client k) v new) (HasMade a w old (HearFrom c.args.node) v new) (hear-made a w old c.args.node k v new c.in-Some.ensures.some) c.take.ensures.taken

pub returns-in-Some-clause-stuck : goal.returns-in-Some-clause-stuck
returns-in-Some-clause-stuck g c =
    let a = c.args.want.now in
    let w = c.args.self.now.world in
    let k = c.in-Some.number in
    err-all c.take.result (λ f. (step w (event.Hear a.client k) ≡ Err f) ⊎ (f ≡ fault.Memory)) (λ f. IsStuck a w (HearFrom c.args.node) f ⊎ (f ≡ fault.Memory)) (λ f. hear-stuck a w c.args.node k f c.in-Some.ensures.some) c.take.ensures.refused

pub returns-in-None-clause-stuck : goal.returns-in-None-clause-stuck
returns-in-None-clause-stuck g c = inl (stuck_unheard c.args.node (c.number_to_hear.ensures.none c.in-None.is))
