-- Which worlds are reachable, and what is known of them.
use Rattle.std.proofs.Common.{◌≡◌, ℕ, List, [], ◌∷◌, ◌++◌, Result, Ok, Err, take, refl, sym, ◌∙◌, ap, subst}
use Rattle.std.specs.Prelude.{length, map, replicate}
use Rattle.lock_model.specs.declared.problems.Problem.{Problem}
use Rattle.lock_model.specs.Ballots.{Ballot, AllCross, node_count}
use Rattle.world_model.specs.declared.events.Effect.{Effect}
use Rattle.world_model.specs.declared.events.Event.{Event}
use Rattle.world_model.specs.declared.events.StepFault.{StepFault}
use Rattle.world_model.specs.declared.exact.ExactWorld.{ExactWorld}
use Rattle.world_model.specs.declared.exact.ExactStation.{ExactStation}
use Rattle.world_model.specs.Worlds.{World, Setting, Happens, Run, IsLawfulOpening}
use Rattle.world_model.specs.ExactWorlds.{Steps, Ran, ran_on, ran, step}
use Rattle.world_model.specs.Exclusion.{WritersAreAlone, IsExclusive}
use Rattle.world_model.specs.Forgetting.{forget, setting_of, IsSound}
use Rattle.world_model.specs.Laws.{ExactStepsAreAllowed, StepsKeepSound, OpeningIsResumable, ResumedIsSound, ResumedIsLawful}
use Rattle.world_model.specs.Openings.{empty_station, opening, resumed, IsResumable}
use Rattle.world_model.specs.StepsOf.{Does}
use Rattle.world_laws.specs.Reaching.{LeadsTo, leads_nowhere, leads_on, IsReachable, IsSpokenOf, StepsReachOn, RunsReachOn}

-- Openings.

pub opened : (b : List Ballot) (stations : List ExactStation) (attempts : List ℕ) → IsResumable b stations attempts → IsReachable (resumed b stations attempts)
opened b stations attempts r = record { ballots = b; stations = stations; attempts = attempts; resumable = r; leads = leads_nowhere }

pub opened-empty : OpeningIsResumable → (b : List Ballot) (problems : List Problem) (clients : ℕ) → AllCross b → length problems ≡ node_count b → IsReachable (opening b problems clients)
opened-empty law b problems clients crosses count = opened b (map empty_station problems) (replicate clients 0) (law b problems clients crosses count)

-- Steps and runs lead on.

on-step : (w v : ExactWorld) (e : Event) (r : Result Effect StepFault) → IsReachable w → Does e (step w e) w r v → IsReachable v
on-step w v e (Ok done) h does = record { ballots = h.ballots; stations = h.stations; attempts = h.attempts; resumable = h.resumable; leads = leads_on w e (record { world = v; effect = done }) h.leads does }
on-step w v e (Err f) h does = subst IsReachable (sym does.1) h

pub steps-reach-on : StepsReachOn
steps-reach-on = on-step

ran-leads : (x : ExactWorld) (events : List Event) (w : ExactWorld) → LeadsTo x w → LeadsTo x (ran events w).world
ran-leads x [] w l = l
ran-leads x (e ∷ events) w l = go (step w e) refl (ran-leads x events)
  where
    go : (s : Steps) → step w e ≡ s → ((v : ExactWorld) → LeadsTo x v → LeadsTo x (ran events v).world) → LeadsTo x (ran_on w s (λ v. ran events v)).world
    go (Err f) is rest = l
    go (Ok s) is rest = rest s.world (leads_on w e s l is)

ran-reaches : (events : List Event) (w : ExactWorld) → IsReachable w → IsReachable (ran events w).world
ran-reaches events w h = record { ballots = h.ballots; stations = h.stations; attempts = h.attempts; resumable = h.resumable; leads = ran-leads (resumed h.ballots h.stations h.attempts) events w h.leads }

pub runs-reach-on : RunsReachOn
runs-reach-on w v events (Ok k) h runs = subst IsReachable (ap (λ (r : Ran). r.world) runs.1) (ran-reaches events w h)
runs-reach-on w v events (Err r) h runs =
    let (e, there, is, refused) = runs in
    subst IsReachable (ap (λ (q : Ran). q.world) is) (ran-reaches (take r.0 events) w h)

-- What leads on is a run.

run-last : (s : Setting) (events : List Event) (w u v : World) (e : Event) → Run s w events u → Happens s u e v → Run s w (events ++ e ∷ []) v
run-last s [] w u v e r h = (v, subst (λ (x : World). Happens s x e v) r h, refl)
run-last s (d ∷ events) w u v e r h = let (x, first, rest) = r in (x, first, run-last s events x u v e rest h)

-- a run that leads to the world, among the same actors, and the world is sound
pub record Leads (x w : ExactWorld) : Type 0 where
  pub events : List Event
  pub run : Run (setting_of x) (forget x) events (forget w)
  pub setting : setting_of w ≡ setting_of x
  pub sound : IsSound w

pub leads : ExactStepsAreAllowed → StepsKeepSound → (x w : ExactWorld) → IsSound x → LeadsTo x w → Leads x w
leads allowed keep x _ sound leads_nowhere = record { events = []; run = refl; setting = refl; sound = sound }
leads allowed keep x _ sound (leads_on u e s l is) =
    let before = leads allowed keep x u sound l in
    let one = allowed u s.world e s.effect before.sound is in
    record {
      events = before.events ++ e ∷ [];
      run = run-last (setting_of x) before.events (forget x) (forget u) (forget s.world) e before.run (subst (λ (among : Setting). Happens among (forget u) e (forget s.world)) before.setting one.0);
      setting = one.1 ∙ before.setting;
      sound = keep u s.world e s.effect before.sound is;
    }

pub spoken-of : ExactStepsAreAllowed → StepsKeepSound → ResumedIsSound → ResumedIsLawful → (w : ExactWorld) → IsReachable w → IsSpokenOf w
spoken-of allowed keep is_sound is_lawful w h =
    let x = resumed h.ballots h.stations h.attempts in
    let l = leads allowed keep x w (is_sound h.ballots h.stations h.attempts h.resumable) h.leads in
    record {
      sound = l.sound;
      crosses = l.sound.crosses;
      reached = record {
        opening = forget x;
        events = l.events;
        lawful = subst (λ (s : Setting). IsLawfulOpening s (forget x)) (sym l.setting) (is_lawful h.ballots h.stations h.attempts h.resumable);
        run = subst (λ (s : Setting). Run s (forget x) l.events (forget w)) (sym l.setting) l.run;
      };
    }

pub alone-there : WritersAreAlone → (w : ExactWorld) → IsSpokenOf w → IsExclusive (forget w)
alone-there law w h = law (setting_of w) h.reached.opening (forget w) h.reached.events h.crosses h.reached.lawful h.reached.run
