-- A run of the exact world is a run, and leaves a sound world.
use Rattle.std.proofs.Common.{◌≡◌, ◌+◌, List, [], ◌∷◌, take, suc, Ok, Err, refl, sym, ◌∙◌, subst, arith}
use Rattle.world_model.specs.declared.events.Event.{Event}
use Rattle.world_model.specs.declared.exact.ExactWorld.{ExactWorld}
use Rattle.world_model.specs.Worlds.{Setting, Run}
use Rattle.world_model.specs.ExactWorlds.{Steps, Stepped, ran_on, ran, step, deed_of}
use Rattle.world_model.specs.Forgetting.{forget, setting_of, IsSound}
use Rattle.world_model.specs.Laws.{IsAllowedRun}
use Rattle.world_model.proofs.Deeds.{ModelLaws}
use Rattle.world_model.proofs.StepFacts.{DeedDone, step-done}

-- what is to be shown of where a run went on
record WentOn (w : ExactWorld) (e : Event) (events : List Event) (s : Steps) : Type 0 where
  run : Run (setting_of w) (forget w) (take (ran_on w s (λ v. ran events v)).taken (e ∷ events)) (forget (ran_on w s (λ v. ran events v)).world)
  setting : setting_of (ran_on w s (λ v. ran events v)).world ≡ setting_of w
  sound : IsSound (ran_on w s (λ v. ran events v)).world

pub run-allowed : ModelLaws → (events : List Event) (w : ExactWorld) → IsSound w → IsAllowedRun w events
run-allowed laws [] w sound = record { run = refl; setting = refl; sound = sound }
run-allowed laws (e ∷ events) w sound =
    let r = go (step w e) (λ s h. step-done laws w e s h) (λ v ok. run-allowed laws events v ok) in
    record { run = r.run; setting = r.setting; sound = r.sound }
  where
    go : (s : Steps) → ((x : Stepped) → s ≡ Ok x → DeedDone w e (deed_of e) x.effect x.world) → ((v : ExactWorld) → IsSound v → IsAllowedRun v events) → WentOn w e events s
    go (Err f) first more = record { run = refl; setting = refl; sound = sound }
    go (Ok s) first more =
        let one = first s refl in
        let rest = more s.world (one.sound sound) in
        let q = ran events s.world in
        let next : q.taken + 1 ≡ suc q.taken = omega arith in
        record {
          run = subst (λ n. Run (setting_of w) (forget w) (take n (e ∷ events)) (forget q.world)) (sym next)
              (forget s.world, one.happens sound, subst (λ (among : Setting). Run among (forget s.world) (take q.taken events) (forget q.world)) one.setting rest.run);
          setting = rest.setting ∙ one.setting;
          sound = rest.sound;
        }
