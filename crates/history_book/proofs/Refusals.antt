-- What a refusal tells.
use Rattle.std.proofs.Common.{◌≡◌, true, List, sym, ap, ◌∙◌, subst, Err, Some, eqb-true}
use mathlib.Core.List.{IsPrefix}
use Rattle.lock_messages.specs.declared.ids.Actor.{Actor}
use Rattle.world_model.specs.declared.events.Effect.{Effect}
use Rattle.world_model.specs.declared.events.Event.{Event}
use Rattle.world_model.specs.declared.events.StepFault.{StepFault}
use Rattle.world_model.specs.ExactWorlds.{step, actor_of, refusal, refusal_of}
use Rattle.world_model.specs.Locality.{PlacesAreApart, RefusalsAreLocal, PartsAreLocal, IsLocalRefusal, own_events, local_part, IsHistory}
use Rattle.world_model.specs.Parts.{place, is_own, part, own_refusal}
use Rattle.history_book.specs.Books.{BookValue, BerthValue, Known, own_of, own_part}

pub known : (b : BookValue) (k : BerthValue) → PartsAreLocal → IsHistory b.opening b.history b.world → IsPrefix k.seen b.history → own_events k.actor b.history ≡ own_of k → k.opening ≡ b.opening → Known b k
known b k law run begins own opening = record {
  run = run;
  begins = begins;
  own = own;
  opening = opening;
  part = law b.opening b.world b.history run k.actor
      ∙ ap (λ l. local_part b.opening.ballots (part b.opening k.actor) l) own
      ∙ ap (λ w. local_part w.ballots (part w k.actor) (own_of k)) (sym opening);
}

pub local_refusal : (b : BookValue) (k : BerthValue) (e : Event) (f : StepFault) → PlacesAreApart → RefusalsAreLocal → Known b k → is_own k.actor e ≡ true → step b.world e ≡ Err f → IsLocalRefusal e (own_refusal b.opening.ballots e (own_part k)) (Some f)
local_refusal b k e f apart law is own refused =
    let who : actor_of e ≡ k.actor = apart (actor_of e) k.actor (eqb-true (place (actor_of e)) (place k.actor) own) in
    let said = law b.opening b.world b.history is.run e in
    let here : IsLocalRefusal e (own_refusal b.opening.ballots e (local_part b.opening.ballots (part b.opening k.actor) (own_events k.actor b.history))) (refusal b.world e) =
    subst (λ (a : Actor). IsLocalRefusal e (own_refusal b.opening.ballots e (local_part b.opening.ballots (part b.opening a) (own_events a b.history))) (refusal b.world e)) who said in
    let listed = subst (λ (l : List (Event × Effect)). IsLocalRefusal e (own_refusal b.opening.ballots e (local_part b.opening.ballots (part b.opening k.actor) l)) (refusal b.world e)) is.own here in
    let opened = subst (λ w. IsLocalRefusal e (own_refusal b.opening.ballots e (local_part w.ballots (part w k.actor) (own_of k))) (refusal b.world e)) (sym is.opening) listed in
    subst (λ r. IsLocalRefusal e (own_refusal b.opening.ballots e (own_part k)) (refusal_of r)) refused opened
