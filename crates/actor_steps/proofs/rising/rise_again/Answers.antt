use Rattle.std.proofs.Common.{◌≡◌, ◌↔◌, refl, sym, subst}
use Rattle.world_model.specs.declared.events.Age.TheVariants.{New}
use Rattle.actor_steps.specs.Steps.{IsRising}
use Rattle.actor_steps.proofs.FindingFacts.{fallen_finds}
use Rattle.actor_steps.proofs.StepFacts.{rising_again}
use Rattle.actor_steps.proofs.rising.rise_again.Goals as goal

pub log_rise-requires-clause-rising : goal.log_rise-requires-clause-rising
log_rise-requires-clause-rising g c =
    let l = g.R.Recorder.own_log c.log_fall.new.recorder in
    let age = c.age_of-age.result in
    let same = subst (λ found. (age ≡ New) ↔ (found ≡ c.args.tried.now)) c.as_slice.ensures.value c.age_of-age.ensures.new in
    subst (λ found. IsRising l c.args.actor age found) (sym c.as_slice-2.ensures.value)
    (rising_again l c.args.actor age c.in_ok-bytes.bytes.items c.args.tried.now _ c.in_ok-log_fall.ensures.fallen c.in_ok-bytes.ensures.found.among same)

-- the actor has fallen, and its record has found nothing new since

pub returns-in_err-bytes-clause-finds : goal.returns-in_err-bytes-clause-finds
returns-in_err-bytes-clause-finds g c = fallen_finds _ _ c.args.actor c.args.tried.now _ _ c.in_ok-log_fall.ensures.fallen c.reopened.ensures.only refl

pub returns-in_err-log_rise-clause-finds : goal.returns-in_err-log_rise-clause-finds
returns-in_err-log_rise-clause-finds g c = fallen_finds _ _ c.args.actor c.args.tried.now _ _ c.in_ok-log_fall.ensures.fallen c.reopened.ensures.only c.in_err-log_rise.ensures.refused.1
