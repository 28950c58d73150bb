-- One step of an attempt after the other.
use Rattle.std.proofs.Common.{◌≡◌, ◌↔◌, ◌⊎◌, inl, inr, ℕ, Bool, List, [], refl, ap, ◌∙◌}
use Rattle.lock_messages.specs.declared.ids.Actor.TheVariants as actor
use Rattle.lock_messages.specs.declared.tickets.Mode.{Mode}
use Rattle.world_model.specs.declared.events.Age.{Age}
use Rattle.world_model.specs.declared.events.Age.TheVariants.{New}
use Rattle.world_model.specs.declared.events.Effect.{Effect}
use Rattle.world_model.specs.declared.events.Event.{Event}
use Rattle.world_model.specs.declared.events.Event.TheVariants as event
use Rattle.event_recorders.specs.declared.faults.RunFault.{RunFault}
use Rattle.event_recorders.specs.OwnLogs.{OwnLog, IsAdded, part_now}
use Rattle.actor_steps.specs.Steps.{IsRisenAgain}
use Rattle.actor_steps.specs.Endings.{FailuresFollow}
use Rattle.actor_steps.specs.Sendings.{sent_for}
use Rattle.actor_steps.proofs.EndFacts.{failures_on}
use Rattle.actor_steps.proofs.SendingFacts.{silent}
use Rattle.client_loop.specs.Attempting.{GoesOnSilently, BeginsSilently, RecordAgrees, EndsAttempting}
use Rattle.client_loop.specs.Visits.{Use, Visits, visits_after}
use Rattle.client_loop.proofs.BeginFacts.{begins_none, begins_one, begins_on, begins_still}
use Rattle.client_loop.proofs.EndFacts.{client_ends_on}
use Rattle.client_loop.proofs.Logs.{visits-adds}
use Rattle.client_loop.proofs.SentFacts.{begin_sends_nothing}

-- one step of the record, or at most one, and one after the other

pub added_silently : (l l' : OwnLog) (e : Event) (done : Effect) → IsAdded l e done l' → sent_for l.ballots e done (part_now l) ≡ [] → ((v : Visits) → visits_after v e ≡ v) → GoesOnSilently l l'
added_silently l l' e done added nothing same = record { silent = silent l l' e done added nothing; visits = visits-adds l l' e done added ∙ same _ }

pub most_silently : (l l' : OwnLog) (e : Event) (done : Effect) → (l' ≡ l) ⊎ IsAdded l e done l' → sent_for l.ballots e done (part_now l) ≡ [] → ((v : Visits) → visits_after v e ≡ v) → GoesOnSilently l l'
most_silently l l' e done (inl is) nothing same = rw is (record { silent = refl; visits = refl })
most_silently l l' e done (inr added) nothing same = added_silently l l' e done added nothing same

pub silently_after : (l m l' : OwnLog) → GoesOnSilently l m → GoesOnSilently m l' → GoesOnSilently l l'
silently_after l m l' first then = record { silent = then.silent ∙ first.silent; visits = then.visits ∙ first.visits }

pub risen_silently : (l l' : OwnLog) (c : ℕ) (bytes tried : List ℕ) → ((age : Age) × IsRisenAgain l (actor.Client c) age l' × ((age ≡ New) ↔ (bytes ≡ tried))) → GoesOnSilently l l'
risen_silently l l' c bytes tried (age, again, new) = silently_after _ _ _ (added_silently _ _ _ _ again.fallen refl (λ v. refl)) (added_silently _ _ _ _ again.risen refl (λ v. refl))

-- a Begin, and what comes after it

pub begins_silently : (l l' : OwnLog) (c : ℕ) (m : Mode) (x : List ℕ) (place : ℕ) (done : Effect) → IsAdded l (event.Begin c m x place) done l' → BeginsSilently (record { mode = m; resource = x; place = place }) l l'
begins_silently l l' c m x place done added =
    let more = visits-adds _ _ _ _ added in
    record { silent = begin_sends_nothing l l' c m x place done added; entered = ap (λ (v : Visits). v.entered) more; softened = ap (λ (v : Visits). v.softened) more; begins = begins_one _ _ _ more }

pub nothing_silently : (u : Use) (l l' : OwnLog) → l' ≡ l → BeginsSilently u l l'
nothing_silently u l l' same = rw same (record { silent = refl; entered = refl; softened = refl; begins = begins_none u _ _ refl })

pub silently_on : (u : Use) (l m l' : OwnLog) → BeginsSilently u l m → BeginsSilently u m l' → BeginsSilently u l l'
silently_on u l m l' first then = record { silent = then.silent ∙ first.silent; entered = then.entered ∙ first.entered; softened = then.softened ∙ first.softened; begins = begins_on u _ _ _ first.begins then.begins }

pub silently_then : (u : Use) (l m l' : OwnLog) → BeginsSilently u l m → GoesOnSilently m l' → BeginsSilently u l l'
silently_then u l m l' first then = record {
  silent = then.silent ∙ first.silent;
  entered = ap (λ (v : Visits). v.entered) then.visits ∙ first.entered;
  softened = ap (λ (v : Visits). v.softened) then.visits ∙ first.softened;
  begins = begins_still u _ _ _ first.begins then.visits;
}

-- after other falls and failures

pub agrees_on : (m n : ℕ) (l : OwnLog) (finds : List (List ℕ)) (a b c : ℕ) → FailuresFollow m n a b → RecordAgrees n l finds b c → RecordAgrees m l finds a c
agrees_on m n l finds a b c first then = record { falls = failures_on m n _ a b c first then.falls; own = then.own }

pub ends_since : (f : RunFault) (m n : ℕ) (l : OwnLog) (stuck spent : Bool) (a b c : ℕ) → FailuresFollow m n a b → EndsAttempting f n l stuck spent b c → EndsAttempting f m l stuck spent a c
ends_since f m n l stuck spent a b c first then = record { which = then.which; cause = client_ends_on f m n l stuck spent a b c first then.cause }
