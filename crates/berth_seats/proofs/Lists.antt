-- Lists: beginnings of lists, an actor's own events, and actors that were given a berth.
use Rattle.std.proofs.Common.{◌≡◌, ◌≢◌, ◌⊎◌, ℕ, zero, suc, eqb, cond, ◌||◌, List, [], ◌∷◌, ◌++◌, length, Bool, true, false, true≢false, refl, sym, ap, ◌∙◌, inl, inr, ⊎_elim, append_assoc, append-nil, eq-eqb, ne_eqb, eqb-true}
use Rattle.std.specs.List.{list_any}
use Rattle.std.proofs.lemmas.List.Elements.{filter-append}
use Rattle.std.proofs.lemmas.List.Folds.{list_any-append}
use mathlib.Core.Option.{some, some-ne-none, some-injective}
use mathlib.Core.List.{IsPrefix}
use lib.ListN.{get_elem?}
use Rattle.lock_messages.specs.declared.ids.Actor.{Actor}
use Rattle.world_model.specs.declared.events.Effect.{Effect}
use Rattle.world_model.specs.declared.events.Event.{Event}
use Rattle.world_model.specs.ExactWorlds.{actor_of}
use Rattle.world_model.specs.Locality.{own_events}
use Rattle.world_model.specs.Parts.{place, is_own}
use Rattle.berth_seats.specs.Views.{is_given}

pub off : {A : Type 0} → false ≡ true → A
off e = absurd (true≢false (sym e))

module _ {A : Type 0} where
  pub at_new : (l : List A) (a b : A) (j : ℕ) → get_elem? (l ++ a ∷ []) j ≡ some b → (get_elem? l j ≡ some b) ⊎ ((j ≡ length l) × (a ≡ b))
  at_new [] a b zero e = inr (refl, some-injective a b e)
  at_new [] a b (suc j) e = absurd (some-ne-none b (sym e))
  at_new (x ∷ xs) a b zero e = inl e
  at_new (x ∷ xs) a b (suc j) e = ⊎_elim (λ t. inl t) (λ (t : (j ≡ length xs) × (a ≡ b)). inr (ap suc t.0, t.1)) (at_new xs a b j e)

  pub begins_itself : (xs : List A) → IsPrefix xs xs
  begins_itself xs = ([], append-nil xs)

  pub begins_longer : (xs ys zs : List A) → IsPrefix xs ys → IsPrefix xs (ys ++ zs)
  begins_longer xs ys zs h = (h.0 ++ zs, sym (append_assoc xs h.0 zs) ∙ ap (λ l. l ++ zs) h.1)

-- an event of another actor is none of its own
pub not_own : (who : Actor) (e : Event) (done : Effect) (history : List (Event × Effect)) → is_own who e ≡ false → own_events who (history ++ (e, done) ∷ []) ≡ own_events who history
not_own who e done history other =
    filter-append (λ (p : Event × Effect). is_own who p.0) history ((e, done) ∷ [])
    ∙ ap (λ (b : Bool). own_events who history ++ cond b ((e, done) ∷ []) []) other
    ∙ append-nil (own_events who history)

-- an event of one actor is not of another
pub of_other : (a b : Actor) (e : Event) → is_own a e ≡ true → place b ≢ place a → is_own b e ≡ false
of_other a b e mine apart = ne_eqb (place (actor_of e)) (place b) (λ same. apart (sym same ∙ eqb-true (place (actor_of e)) (place a) mine))

pub given_more : (given : List Actor) (who a : Actor) → is_given given a ≡ true → is_given (given ++ who ∷ []) a ≡ true
given_more given who a is = list_any-append (λ (x : Actor). eqb (place x) (place a)) given (who ∷ []) ∙ ap (λ (b : Bool). b || is_given (who ∷ []) a) is

pub given_last : (given : List Actor) (who : Actor) → is_given (given ++ who ∷ []) who ≡ true
given_last given who = list_any-append (λ (x : Actor). eqb (place x) (place who)) given (who ∷ []) ∙ or_true (is_given given who) (eqb (place who) (place who)) (eq-eqb (place who) (place who) refl)
  where
    or_true : (a b : Bool) → b ≡ true → (a || (b || false)) ≡ true
    or_true true b e = refl
    or_true false b e = ap (λ (x : Bool). x || false) e

-- who was given a berth is not who was given none
pub given_apart : (given : List Actor) (a b : Actor) → is_given given a ≡ true → is_given given b ≡ false → place a ≢ place b
given_apart given a b yes' no' same = true≢false (sym yes' ∙ ap (λ (n : ℕ). list_any (λ (x : Actor). eqb (place x) n) given) same ∙ no')
