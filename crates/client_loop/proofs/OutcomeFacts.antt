-- How the calls of a client end, put together.
use Rattle.std.proofs.Common.{◌≡◌, ◌++◌, ◌∷◌, [], Bool, true, false, List, Option, Some, Result, Ok, Err, IfErr, ap, refl, ◌∙◌}
use Rattle.event_recorders.specs.declared.faults.RunFault.{RunFault}
use Rattle.client_loop.specs.Attempting.{EndsAskingOnce}
use Rattle.client_loop.specs.Outcomes.{Moment, EntersNothing, SendsUnlessMemory, EndsAttempts}
use Rattle.client_loop.specs.Visits.{Use, Visits, visits_entering}
use Rattle.client_loop.proofs.EndFacts.{asking_ends}

-- What was begun last, and what was softened, is the same after an Enter, and after nothing.
pub same_behind : (r : Result Bool RunFault) (a b : Visits) → (r ≡ Ok true → b ≡ visits_entering a) → ((r ≡ Ok true → ⊥) → b ≡ a) → (b.begun ≡ a.begun) × (b.softened ≡ a.softened)
same_behind (Ok true) a b entered outside = (ap (λ (v : Visits). v.begun) (entered refl), ap (λ (v : Visits). v.softened) (entered refl))
same_behind (Ok false) a b entered outside = let same = outside (λ (is : Ok false ≡ Ok true). cc) in (ap (λ (v : Visits). v.begun) same, ap (λ (v : Visits). v.softened) same)
same_behind (Err f) a b entered outside = let same = outside (λ (is : Err f ≡ Ok true). cc) in (ap (λ (v : Visits). v.begun) same, ap (λ (v : Visits). v.softened) same)

-- After an Enter the use that was begun last was entered, once.
pub enters_use : (u : Use) (o a b : Visits) → b ≡ visits_entering a → a.begun ≡ Some u → a.entered ≡ o.entered → b.entered ≡ o.entered ++ Some u ∷ []
enters_use u o a b entered begun before =
    ap (λ (v : Visits). v.entered) entered
    ∙ ap (λ (uses : List (Option Use)). uses ++ a.begun ∷ []) before
    ∙ ap (λ (last : Option Use). o.entered ++ last ∷ []) begun

-- how attempts ended, of what is known where they did not end well
pub ends_attempts : (r : Result Bool RunFault) (v v' : Moment) → ((r ≡ Ok true → ⊥) → EntersNothing v v') → IfErr r (λ f. SendsUnlessMemory f v v') → v'.stable.stuck ≡ false →
    IfErr r (λ f. EndsAskingOnce f v'.log v'.stable.finds v'.progress) → IfErr r (λ f. EndsAttempts f v v')
ends_attempts (Ok entered) v v' outside sent free ends = tt
ends_attempts (Err f) v v' outside sent free ends = record {
  outside = outside (λ (is : Err f ≡ Ok true). cc);
  sent = sent;
  cause = asking_ends f _ _ _ _ _ _ ends.cause free;
  last = ends.last;
  rests = λ one. record { stands = (ends.rests one).stands; idle = (ends.rests one).idle; free = free };
}
