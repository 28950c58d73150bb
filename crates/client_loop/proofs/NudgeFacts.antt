-- Which faults come at the last nudge of a wish.
use Rattle.std.proofs.Common.{◌≡◌, ◌⊎◌, inl, inr, subst, sym, ◌∙◌, ℕ}
use Rattle.event_recorders.specs.declared.faults.RunFault.{RunFault}
use Rattle.event_recorders.specs.declared.faults.RunFault.TheVariants as fault
use Rattle.actor_steps.specs.Steps.{IsBookFault}
use Rattle.client_loop.specs.Endings.{IsAttemptFault}
use Rattle.client_loop.specs.Remembering.{IsLast}

pub book_has_none : (f : RunFault) (most nudges : ℕ) → IsBookFault f → f ≡ fault.GaveUp → IsLast most nudges
book_has_none f most nudges (inl is) gave = absurd (let clash : fault.Memory ≡ fault.GaveUp = sym is ∙ gave in cc)
book_has_none f most nudges (inr is) gave = absurd (let clash : fault.Book ≡ fault.GaveUp = sym is ∙ gave in cc)

pub attempt_has_none : (f : RunFault) (most nudges : ℕ) → IsAttemptFault f → f ≡ fault.GaveUp → IsLast most nudges
attempt_has_none f most nudges (inl is) gave = absurd (let clash : fault.NotReopened ≡ fault.GaveUp = sym is ∙ gave in cc)
attempt_has_none f most nudges (inr (inl is)) gave = absurd (let clash : fault.Spent ≡ fault.GaveUp = sym is ∙ gave in cc)
attempt_has_none f most nudges (inr (inr is)) gave = book_has_none f most nudges is gave

-- the same count of the same number is the last still
last_on : (most nudges most' nudges' : ℕ) → most' ≡ most → nudges' ≡ nudges → IsLast most nudges → IsLast most' nudges'
last_on most nudges most' nudges' same still last = subst (λ (n : ℕ). IsLast n nudges') (sym same) (subst (λ (n : ℕ). IsLast most n) (sym still) last)

-- an ending by the fault that it was begun with, or by the book's
pub last_ended : (f f' : RunFault) (most nudges most' nudges' : ℕ) → (f ≡ fault.GaveUp → IsLast most nudges) → (f' ≡ f) ⊎ IsBookFault f' → most' ≡ most → nudges' ≡ nudges → f' ≡ fault.GaveUp → IsLast most' nudges'
last_ended f f' most nudges most' nudges' last (inl same) is still gave = last_on most nudges most' nudges' is still (last (sym same ∙ gave))
last_ended f f' most nudges most' nudges' last (inr book) is still gave = book_has_none f' most' nudges' book gave
