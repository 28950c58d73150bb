use Rattle.world_model.specs.declared.events.Effect.{Effect}
use Rattle.world_model.specs.declared.events.Effect.TheVariants as effect
use Rattle.world_model.specs.declared.exact.ExactWorld.{ExactWorld}
use Rattle.world_model.specs.Laws.{IsNumbered, SaidFits}
use Rattle.world_model.proofs.Deeds.{laws-of}
use Rattle.world_model.proofs.StepFacts.{step-done}
use Rattle.world_model.proofs.laws.said_numbers_fit.Goals as goal

-- numbers that follow the next one fit
fits : (w : ExactWorld) (done : Effect) → IsNumbered w done → SaidFits done
fits w (effect.Said first count) h = h.1
fits w (effect.Chose a) h = tt
fits w effect.Tried h = tt
fits w effect.Kept h = tt
fits w (effect.Sent k m) h = tt
fits w (effect.Took m changed) h = tt
fits w (effect.Heard m heard) h = tt
fits w effect.Inside h = tt
fits w effect.Outside h = tt
fits w effect.Softened h = tt
fits w effect.Down h = tt
fits w effect.Up h = tt
fits w (effect.Switched changed) h = tt

pub returns : goal.returns
returns c = λ w v e done h.
    let numbered = (step-done (laws-of c.decision_is_allowed.ensures c.changes_are_seen.ensures.same c.switch_is_allowed.ensures.allowed c.switch_is_allowed.ensures.same c.switch_is_allowed.ensures.compared c.hearing_is_exact.ensures.of_ticket c.hearing_is_exact.ensures.softened c.hearing_is_exact.ensures.at_rest) w e _ h).numbers in
    (numbered, fits w done numbered)
