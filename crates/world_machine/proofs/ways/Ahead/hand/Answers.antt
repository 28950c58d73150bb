use Rattle.std.proofs.Common.{◌≡◌, ◌⊎◌, Err}
use Rattle.world_model.specs.declared.events.Event.TheVariants as event
use Rattle.world_model.specs.declared.events.StepFault.TheVariants as fault
use Rattle.world_model.specs.declared.ways.Move.TheVariants.{Hand}
use Rattle.world_model.specs.ExactWorlds.{step}
use Rattle.world_model.specs.ExactWays.{IsStuck}
use Rattle.world_machine.specs.Going.{HasTaken, HasMade}
use Rattle.world_machine.proofs.GoingFacts.{hand-made, hand-stuck-saying, hand-stuck-taking, ok-all, err-all}
use Rattle.world_machine.proofs.ways.Ahead.hand.Goals as goal

pub returns-in-Ok-clause-made : goal.returns-in-Ok-clause-made
returns-in-Ok-clause-made g c =
    let w = c.args.self.now.world in
    let old = c.args.self.now.events.items in
    let v = c.take.new.self.world in
    let mid = c.take.new.self.events.items in
    let u = c.take-in-Ok.new.self.world in
    let new = c.take-in-Ok.new.self.events.items in
    let k = c.next_number-number.result in
    λ a. ok-all c.take-in-Ok.result (HasTaken v mid (event.Take c.args.node k) u new) (HasMade a w old (Hand c.args.client c.args.node) u new)
    (hand-made a w old c.args.client c.args.node k v mid u new c.next_number-number.ensures c.in-Ok.ensures.taken) c.take-in-Ok.ensures.taken

pub returns-in-Ok-clause-stuck : goal.returns-in-Ok-clause-stuck
returns-in-Ok-clause-stuck g c =
    let w = c.args.self.now.world in
    let old = c.args.self.now.events.items in
    let v = c.take.new.self.world in
    let mid = c.take.new.self.events.items in
    let k = c.next_number-number.result in
    λ a. err-all c.take-in-Ok.result (λ f. (step v (event.Take c.args.node k) ≡ Err f) ⊎ (f ≡ fault.Memory)) (λ f. IsStuck a w (Hand c.args.client c.args.node) f ⊎ (f ≡ fault.Memory))
    (λ f. hand-stuck-taking a w old c.args.client c.args.node k v mid f c.next_number-number.ensures c.in-Ok.ensures.taken) c.take-in-Ok.ensures.refused

pub returns-in-Err-clause-stuck : goal.returns-in-Err-clause-stuck
returns-in-Err-clause-stuck g c = λ a. hand-stuck-saying a c.args.self.now.world c.args.client c.args.node c.in-Err.fault c.in-Err.ensures.refused
