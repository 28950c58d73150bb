-- What is among two lists, and among one whose places are numbered from 1.
use Rattle.std.proofs.Common.{◌≡◌, ◌↔◌, ℕ, ◌+◌, ◌-◌, ◌⊎◌, List, [], ◌∷◌, ◌++◌, zero, suc, Some, None, sym, ◌∙◌, ap, subst, inl, inr}
use Rattle.std.specs.List.{AllByRecursion}
use Rattle.std.specs.Prelude.{slice_get}
use Rattle.lock_model.specs.Decisions.{Among}
use Rattle.lock_model.proofs.GrantFacts.{among-right, among-left, among-cases}
use Rattle.world_model.specs.ExactWorlds.{numbered}
use Rattle.world_model.specs.Numbered.{past-zero, numbered-next, numbered-one}

-- among the elements of two lists

joined : {A : Type 0} (x : A) (xs ys : List A) → Among x xs ⊎ Among x ys → Among x (xs ++ ys)
joined x xs ys (inl m) = among-left x xs ys m
joined x xs ys (inr m) = among-right x xs ys m

pub among-append : {A : Type 0} (x : A) (xs ys : List A) → Among x (xs ++ ys) ↔ (Among x xs ⊎ Among x ys)
among-append x xs ys = (among-cases x xs ys, joined x xs ys)

got-among : {A : Type 0} (xs : List A) (i : ℕ) (x : A) → slice_get xs i ≡ Some x → Among x xs
got-among [] i x h = absurd (let q : None ≡ Some x = h in cc)
got-among (y ∷ xs) zero x h = inl (let q : Some y ≡ Some x = h in let e : x ≡ y = cc in e)
got-among (y ∷ xs) (suc i) x h = inr (got-among xs i x h)

pub numbered-among : {A : Type 0} (xs : List A) (k : ℕ) (x : A) → numbered xs k ≡ Some x → Among x xs
numbered-among xs k x h = got-among xs (k - 1) x (sym (past-zero xs k (numbered-one xs k x h).0) ∙ h)

-- one of a list stands at some place
pub among-got : {A : Type 0} (xs : List A) (x : A) → Among x xs → (i : ℕ) × (slice_get xs i ≡ Some x)
among-got [] x m = absurd m
among-got (y ∷ xs) x (inl e) = (zero, ap Some (sym e))
among-got (y ∷ xs) x (inr m) = let r = among-got xs x m in (suc r.0, r.1)

-- and has the number behind it
pub got-numbered : {A : Type 0} (xs : List A) (i : ℕ) (x : A) → slice_get xs i ≡ Some x → numbered xs (i + 1) ≡ Some x
got-numbered xs i x h = numbered-next xs i ∙ h

-- what holds of each holds of one of them
pub each-among : {A : Type 0} (P : A → Type 0) (xs : List A) (x : A) → AllByRecursion P xs → Among x xs → P x
each-among P [] x all m = absurd m
each-among P (y ∷ xs) x all (inl e) = subst P (sym e) all.0
each-among P (y ∷ xs) x all (inr m) = each-among P xs x all.1 m
