-- What a log has of a message that was read, and of a problem that was switched to.
use Rattle.std.proofs.Common.{◌≡◌, inl, inr, ℕ, Bool, true, Option, Some, None, Result, Ok, Err, IfSome, refl, sym, ap, ◌∙◌, subst}
use Rattle.std.specs.Prelude.{IfOk, IfErr, IfNone}
use Rattle.lock_messages.specs.declared.messages.Message.{Message}
use Rattle.lock_model.specs.declared.hearing.Heard.{Heard}
use Rattle.lock_model.specs.declared.problems.Problem.{Problem}
use Rattle.world_model.specs.declared.events.Effect.{Effect}
use Rattle.world_model.specs.declared.events.Effect.TheVariants as effect
use Rattle.world_model.specs.declared.events.Event.{Event}
use Rattle.world_model.specs.declared.events.Event.TheVariants as event
use Rattle.world_model.specs.Locality.{IsEffectOf}
use Rattle.world_model.specs.Parts.{message_of, changed_by}
use Rattle.event_recorders.specs.declared.log_faults.LogFault.{LogFault}
use Rattle.event_recorders.specs.declared.log_faults.LogFault.TheVariants as fault
use Rattle.event_recorders.specs.OwnLogs.{OwnLog, IsAdded, IsRecorderFault, reads}
use Rattle.actor_steps.specs.Steps.{HasRead, reading_of, IsBookFault}

-- a Hear has the message that was read, and what was made of it
pub read_heard : (l l' : OwnLog) (c k : ℕ) (m : Message) → HasRead l (event.Hear c k) m l' → (told : Heard) × IsAdded l (event.Hear c k) (effect.Heard m told) l'
read_heard l l' c k m r =
    let kind = r.added.kind in
    let same : kind.0 ≡ m = let e : Some kind.0 ≡ Some m = sym (ap message_of kind.3) ∙ r.message in cc in
    (kind.1, subst (λ (x : Message). IsAdded l (event.Hear c k) (effect.Heard x kind.1) l') same (subst (λ (d : Effect). IsAdded l (event.Hear c k) d l') kind.3 r.added))

-- a Take has the message that was read, and whether it changes the record
pub read_took : (l l' : OwnLog) (n k : ℕ) (m : Message) → HasRead l (event.Take n k) m l' → (changed : Bool) × IsAdded l (event.Take n k) (effect.Took m changed) l'
read_took l l' n k m r =
    let kind = r.added.kind in
    let same : kind.0 ≡ m = let e : Some kind.0 ≡ Some m = sym (ap message_of kind.3) ∙ r.message in cc in
    (kind.1, subst (λ (x : Message). IsAdded l (event.Take n k) (effect.Took x kind.1) l') same (subst (λ (d : Effect). IsAdded l (event.Take n k) d l') kind.3 r.added))

-- a Switch has whether it changes the record
pub switch_added : (l l' : OwnLog) (n : ℕ) (p : Problem) (done : Effect) (changed : Bool) → IsAdded l (event.Switch n p) done l' → changed ≡ changed_by done →
    IsAdded l (event.Switch n p) (effect.Switched changed) l'
switch_added l l' n p done changed added is =
    let kind = added.kind in
    subst (λ (b : Bool). IsAdded l (event.Switch n p) (effect.Switched b) l') (sym (is ∙ ap changed_by kind.1)) (subst (λ (d : Effect). IsAdded l (event.Switch n p) d l') kind.1 added)

-- what was read has a message
has-message : (e : Event) (done : Effect) → reads e ≡ true → IsEffectOf e done → message_of done ≡ None → ⊥
has-message (event.Take n k) done r kind none = let e : Some kind.0 ≡ None = sym (ap message_of kind.3) ∙ none in cc
has-message (event.Hear c k) done r kind none = let e : Some kind.0 ≡ None = sym (ap message_of kind.3) ∙ none in cc
has-message (event.Begin c m x place) done r kind none = cc
has-message (event.Try who) done r kind none = cc
has-message (event.Kept who) done r kind none = cc
has-message (event.SayTo c n) done r kind none = cc
has-message (event.Say n) done r kind none = cc
has-message (event.Enter c) done r kind none = cc
has-message (event.Leave c) done r kind none = cc
has-message (event.Soften c) done r kind none = cc
has-message (event.Fall who) done r kind none = cc
has-message (event.Rise who age) done r kind none = cc
has-message (event.Switch n p) done r kind none = cc

-- What came of a reading, by what the log answered.
module _ (l l' : OwnLog) (e : Event) (is : reads e ≡ true) where
  read-if : (o : Option Message) (done : Effect) → message_of done ≡ o → IsAdded l e done l' → IfSome o (λ m. HasRead l e m l')
  read-if None done same added = tt
  read-if (Some m) done same added = record { done = done; message = same; added = added }

  dropped-if : (o : Option Message) (done : Effect) → message_of done ≡ o → IsAdded l e done l' → IfNone o (l' ≡ l)
  dropped-if None done same added = absurd (has-message e done is added.kind same)
  dropped-if (Some m) done same added = tt

  pub has_read : (r : Result Effect LogFault) → IfOk r (λ done. IsAdded l e done l') → IfOk (reading_of r) (λ o. IfSome o (λ m. HasRead l e m l'))
  has_read (Ok done) added = read-if (message_of done) done refl added
  has_read (Err (fault.NotAStep f)) added = tt
  has_read (Err fault.Full) added = tt
  has_read (Err fault.Memory) added = tt
  has_read (Err fault.OtherActor) added = tt
  has_read (Err fault.OtherBook) added = tt

  pub has_dropped : (r : Result Effect LogFault) → IfOk r (λ done. IsAdded l e done l') → IfErr r (λ f. IsRecorderFault e f × (l' ≡ l)) → IfOk (reading_of r) (λ o. IfNone o (l' ≡ l))
  has_dropped (Ok done) added refused = dropped-if (message_of done) done refl added
  has_dropped (Err (fault.NotAStep f)) added refused = refused.1
  has_dropped (Err fault.Full) added refused = tt
  has_dropped (Err fault.Memory) added refused = tt
  has_dropped (Err fault.OtherActor) added refused = tt
  has_dropped (Err fault.OtherBook) added refused = tt

  pub has_refused : (r : Result Effect LogFault) → IfErr r (λ f. IsRecorderFault e f × (l' ≡ l)) → IfErr (reading_of r) (λ f. IsBookFault f × (l' ≡ l))
  has_refused (Ok done) refused = tt
  has_refused (Err (fault.NotAStep f)) refused = tt
  has_refused (Err fault.Full) refused = (inr refl, refused.1)
  has_refused (Err fault.Memory) refused = (inl refl, refused.1)
  has_refused (Err fault.OtherActor) refused = absurd refused.0
  has_refused (Err fault.OtherBook) refused = (inr refl, refused.1)
