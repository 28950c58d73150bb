-- What holds of each in a list whose places are numbered, where one is put into its place.
use Rattle.std.proofs.Common.{◌≡◌, ◌≢◌, ℕ, ◌-◌, ◌==◌, Bool, true, false, List, Some, refl, sym, ◌∙◌, ap, subst, set}
use Rattle.std.specs.Prelude.{slice_get, slice_set}
use Rattle.std.proofs.lemmas.Bool.{eq-eqb, eqb-true}
use Rattle.std.proofs.lemmas.List.{set-get_or}
use Rattle.std.proofs.lemmas.Option.{get_or_from_slice_get}
use Rattle.world_model.specs.ExactWorlds.{numbered}
use Rattle.world_model.specs.Numbered.{past-zero, numbered-one, numbered-set-here, numbered-set-there}

-- what holds of each under its number still does where one was put
pub here-or-there : {A : Type 0} (P : ℕ → A → Type 0) (xs : List A) (k : ℕ) (x y : A) → numbered xs k ≡ Some x → P k y → ((d : ℕ) (z : A) → numbered xs d ≡ Some z → P d z) →
    (d : ℕ) (z : A) → numbered (slice_set xs (k - 1) y) d ≡ Some z → P d z
here-or-there {A} P xs k x y was new old d z h = at (d == k) refl
  where
    at : (b : Bool) → (d == k) ≡ b → P d z
    at true e =
        let same : d ≡ k = eqb-true d k e in
        let there : Some y ≡ Some z = sym (numbered-set-here xs k x y was) ∙ ap (numbered (set xs (k - 1) y)) (sym same) ∙ h in
        let q : y ≡ z = cc in subst (λ m. P m z) (sym same) (subst (P k) q new)
    at false e =
        let apart : d ≢ k = λ q. let p : false ≡ true = sym e ∙ eq-eqb d k q in cc in
        old d z (sym (numbered-set-there xs k d y (numbered-one xs k x was).0 apart) ∙ h)

-- what is in its place is put there again
pub set-same : {A : Type 0} (xs : List A) (k : ℕ) (x : A) → numbered xs k ≡ Some x → slice_set xs (k - 1) x ≡ xs
set-same xs k x h =
    let there : slice_get xs (k - 1) ≡ Some x = sym (past-zero xs k (numbered-one xs k x h).0) ∙ h in
    ap (set xs (k - 1)) (sym (get_or_from_slice_get xs (k - 1) x x there)) ∙ set-get_or xs (k - 1) x
