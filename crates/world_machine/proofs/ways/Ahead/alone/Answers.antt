use Rattle.std.proofs.Common.{◌≡◌, ◌⊎◌, Err}
use Rattle.world_model.specs.declared.events.StepFault.TheVariants as fault
use Rattle.world_model.specs.declared.ways.Move.TheVariants.{Alone}
use Rattle.world_model.specs.ExactWorlds.{step}
use Rattle.world_model.specs.ExactWays.{IsStuck}
use Rattle.world_machine.specs.Going.{HasTaken, HasMade}
use Rattle.world_machine.proofs.GoingFacts.{alone-made, alone-stuck, ok-all, err-all}
use Rattle.world_machine.proofs.ways.Ahead.alone.Goals as goal

pub returns-clause-made : goal.returns-clause-made
returns-clause-made g c =
    let w = c.args.self.now.world in
    let old = c.args.self.now.events.items in
    let v = c.take.new.self.world in
    let new = c.take.new.self.events.items in
    λ a. ok-all c.take.result (HasTaken w old c.args.event v new) (HasMade a w old (Alone c.args.event) v new) (alone-made a w old c.args.event v new) c.take.ensures.taken

pub returns-clause-stuck : goal.returns-clause-stuck
returns-clause-stuck g c =
    let w = c.args.self.now.world in
    λ a. err-all c.take.result (λ f. (step w c.args.event ≡ Err f) ⊎ (f ≡ fault.Memory)) (λ f. IsStuck a w (Alone c.args.event) f ⊎ (f ≡ fault.Memory)) (alone-stuck a w c.args.event) c.take.ensures.refused
