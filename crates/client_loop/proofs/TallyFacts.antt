-- What a wish adds to what was entered and softened.
use Rattle.std.proofs.Common.{◌≡◌, inl, inr, ◌⊎◌, ℕ, ◌+◌, Bool, true, false, List, [], ◌∷◌, ◌++◌, Option, ap, ◌∙◌, if◌then◌else◌}
use Rattle.event_recorders.specs.OwnLogs.{OwnLog}
use Rattle.client_loop.specs.Visits.{Use, Visits, AddsUse, AddsAtMost, tally, visits_of, visits_softening_if}

-- nothing was entered, and nothing softened
pub adds_nothing : (u : Option Use) (does : Bool) (n : ℕ) (l l' : OwnLog) → (visits_of l').entered ≡ (visits_of l).entered → (visits_of l').softened ≡ (visits_of l).softened → AddsAtMost u does (tally n l) (tally n l')
adds_nothing u does n l l' entered softened = inl (λ i. record { count = n; uses = entered i; softened = softened i })

softens_if : (does : Bool) (u : Option Use) (a b : Visits) → b ≡ visits_softening_if does a → a.begun ≡ u →
    (b.entered ≡ a.entered) × (b.softened ≡ (if does then a.softened ++ u ∷ [] else a.softened))
softens_if true u a b is begun = (ap (λ (v : Visits). v.entered) is, ap (λ (v : Visits). v.softened) is ∙ ap (λ (o : Option Use). a.softened ++ o ∷ []) begun)
softens_if false u a b is begun = (ap (λ (v : Visits). v.entered) is, ap (λ (v : Visits). v.softened) is)

-- the use was entered, and then softened if so
pub adds_use : (u : Option Use) (does : Bool) (n : ℕ) (l e l' : OwnLog) → (visits_of e).entered ≡ (visits_of l).entered ++ u ∷ [] → (visits_of e).softened ≡ (visits_of l).softened →
    (visits_of e).begun ≡ u → visits_of l' ≡ visits_softening_if does (visits_of e) → AddsUse u does (tally n l) (tally (n + 1) l')
adds_use u does n l e l' entered softened begun is =
    let h = softens_if does u (visits_of e) (visits_of l') is begun in
    λ i. record { count = n + 1; uses = (h.0 ∙ entered) i; softened = (h.1 ∙ ap (λ (us : List (Option Use)). if does then us ++ u ∷ [] else us) softened) i }

-- the use was entered, and then softened at most
pub adds_half : (u : Option Use) (does : Bool) (n : ℕ) (l e l' : OwnLog) → (visits_of e).entered ≡ (visits_of l).entered ++ u ∷ [] → (visits_of e).softened ≡ (visits_of l).softened →
    (visits_of e).begun ≡ u → (visits_of l' ≡ visits_of e) ⊎ (visits_of l' ≡ visits_softening_if does (visits_of e)) → AddsAtMost u does (tally n l) (tally (n + 1) l')
adds_half u does n l e l' entered softened begun (inl same) = inr (inl (adds_use u false n l e l' entered softened begun same))
adds_half u does n l e l' entered softened begun (inr is) = inr (inr (adds_use u does n l e l' entered softened begun is))
