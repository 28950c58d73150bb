-- An actor's part of the world after a history is told by the actor's own events.
use Rattle.std.proofs.Common.{◌≡◌, ◌≢◌, Bool, true, false, cond, List, [], ◌∷◌, Option, Some, None, refl, sym, ◌∙◌, ap, subst, arith}
use Rattle.std.specs.Prelude.{map}
use Rattle.std.proofs.lemmas.Bool.{eqb-true, eq-eqb}
use Rattle.lock_messages.specs.declared.ids.Actor.{Actor}
use Rattle.lock_messages.specs.declared.ids.Actor.TheVariants as actor
use Rattle.world_model.specs.declared.events.Effect.{Effect}
use Rattle.world_model.specs.declared.events.Event.{Event}
use Rattle.world_model.specs.declared.events.StepFault.{StepFault}
use Rattle.world_model.specs.declared.exact.ExactWorld.{ExactWorld}
use Rattle.world_model.specs.Worlds.{Setting, Run}
use Rattle.world_model.specs.ExactWorlds.{actor_of, refusal, deed_of}
use Rattle.world_model.specs.Forgetting.{forget, setting_of, IsSound}
use Rattle.world_model.specs.Parts.{place, is_own, part, own_refusal, after_own}
use Rattle.world_model.specs.Locality.{IsHistory, own_events, local_part, IsLocalRefusal, IsRunOf}
use Rattle.world_model.proofs.Deeds.{ModelLaws}
use Rattle.world_model.proofs.StepFacts.{DeedDone, step-done}
use Rattle.world_model.proofs.RefusalFacts.{own-first, list-second}

pub places-apart : (a b : Actor) → place a ≡ place b → a ≡ b
places-apart (actor.Node n) (actor.Node m) e = ap actor.Node (let s : n ≡ m = omega (arith, e) in s)
places-apart (actor.Node n) (actor.Client c) e = absurd (omega (arith, e))
places-apart (actor.Client c) (actor.Node n) e = absurd (omega (arith, e))
places-apart (actor.Client c) (actor.Client d) e = ap actor.Client (let s : c ≡ d = omega (arith, e) in s)

pub history-setting : ModelLaws → (history : List (Event × Effect)) (w v : ExactWorld) → IsHistory w history v → setting_of v ≡ setting_of w
history-setting laws [] w v h = ap setting_of h
history-setting laws (p ∷ history) w v h = history-setting laws history h.0 v h.2 ∙ (step-done laws w p.0 _ h.1).setting

-- one event, and then the rest
one-more : (w u : ExactWorld) (p : Event × Effect) (who : Actor) (own : List (Event × Effect)) → DeedDone w p.0 (deed_of p.0) p.1 u → (b : Bool) → is_own who p.0 ≡ b →
    local_part w.ballots (part u who) own ≡ local_part w.ballots (part w who) (cond b (p ∷ own) own)
one-more w u p who own done true e =
    let same : actor_of p.0 ≡ who = places-apart (actor_of p.0) who (eqb-true (place (actor_of p.0)) (place who) e) in
    let is : part u who ≡ after_own w.ballots p.0 p.1 (part w who) = subst (λ a. part u a ≡ after_own w.ballots p.0 p.1 (part w a)) same done.own in
    ap (λ x. local_part w.ballots x own) is
one-more w u p who own done false e =
    let apart : who ≢ actor_of p.0 = λ q. let z : false ≡ true = sym e ∙ eq-eqb (place (actor_of p.0)) (place who) (ap place (sym q)) in cc in
    ap (λ x. local_part w.ballots x own) (done.others who apart)

pub parts-local : ModelLaws → (history : List (Event × Effect)) (w v : ExactWorld) → IsHistory w history v → (who : Actor) → part v who ≡ local_part w.ballots (part w who) (own_events who history)
parts-local laws [] w v h who = ap (λ x. part x who) h
parts-local laws (p ∷ history) w v h who =
    let u = h.0 in
    let done = step-done laws w p.0 _ h.1 in
    let ballot : u.ballots ≡ w.ballots = ap (λ (s : Setting). s.ballots) done.setting in
    parts-local laws history u v h.2 who ∙ ap (λ b. local_part b (part u who) (own_events who history)) ballot ∙ one-more w u p who (own_events who history) done (is_own who p.0) refl

local-refusal : ModelLaws → (w : ExactWorld) (e : Event) (o : Option StepFault) → own_refusal w.ballots e (part w (actor_of e)) ≡ o → IsLocalRefusal e o (refusal w e)
local-refusal laws w e None h = list-second laws w e h
local-refusal laws w e (Some f) h = own-first laws w e f h

pub refusals-local : ModelLaws → (history : List (Event × Effect)) (w v : ExactWorld) → IsHistory w history v → (e : Event) →
    IsLocalRefusal e (own_refusal w.ballots e (local_part w.ballots (part w (actor_of e)) (own_events (actor_of e) history))) (refusal v e)
refusals-local laws history w v h e =
    let ballot : v.ballots ≡ w.ballots = ap (λ (s : Setting). s.ballots) (history-setting laws history w v h) in
    let own : own_refusal v.ballots e (part v (actor_of e)) ≡ own_refusal w.ballots e (local_part w.ballots (part w (actor_of e)) (own_events (actor_of e) history)) =
    ap (λ b. own_refusal b e (part v (actor_of e))) ballot ∙ ap (own_refusal w.ballots e) (parts-local laws history w v h (actor_of e)) in
    local-refusal laws v e (own_refusal w.ballots e (local_part w.ballots (part w (actor_of e)) (own_events (actor_of e) history))) own

pub histories-run : ModelLaws → (history : List (Event × Effect)) (w v : ExactWorld) → IsSound w → IsHistory w history v → IsRunOf w history v
histories-run laws [] w v sound h = record { run = ap forget h; setting = ap setting_of h; sound = subst IsSound (sym h) sound }
histories-run laws (p ∷ history) w v sound h =
    let done = step-done laws w p.0 _ h.1 in
    let rest = histories-run laws history h.0 v (done.sound sound) h.2 in
    record {
      run = (forget h.0, done.happens sound, subst (λ (s : Setting). Run s (forget h.0) (map (λ q. q.0) history) (forget v)) done.setting rest.run);
      setting = rest.setting ∙ done.setting;
      sound = rest.sound;
    }
