-- What follows of lists whose places are numbered from 1. Nothing here has to be believed: each line is proved
-- from `numbered`.
use Rattle.std.proofs.Common.{◌≡◌, ◌≢◌, ℕ, ◌+◌, ◌-◌, ◌<◌, ◌≤◌, ◌==◌, ◌⊎◌, Bool, true, false, cond, List, [], ◌∷◌, ◌++◌, length, get_or, map, set, zero, suc, Some, None, refl, sym, ◌∙◌, ap, inl, inr, arith}
use Rattle.std.specs.Prelude.{slice_get, slice_set}
use Rattle.std.specs.Option.{option_map}
use Rattle.std.proofs.lemmas.Bool.{eq-eqb, ne_eqb}
use Rattle.std.proofs.lemmas.List.{get_or-set_same}
use Rattle.std.proofs.Math.ListN.{length-set}
use Rattle.std.proofs.lemmas.Option.{slice_get-map, slice_get_past, slice_get_read, slice_get-get_or, slice_get_within}
use Rattle.world_model.specs.ExactWorlds.{numbered}

pub numbered-map : {A B : Type 0} (f : A → B) (xs : List A) (k : ℕ) → numbered (map f xs) k ≡ option_map f (numbered xs k)
numbered-map {A} {B} f xs k = go (k == 0)
  where
    go : (b : Bool) → cond b None (slice_get (map f xs) (k - 1)) ≡ option_map f (cond b None (slice_get xs (k - 1)))
    go true = refl
    go false = slice_get-map f xs (k - 1)

pub past-zero : {A : Type 0} (xs : List A) (k : ℕ) → 1 ≤ k → numbered xs k ≡ slice_get xs (k - 1)
past-zero xs k one = ap (λ b. cond b None (slice_get xs (k - 1))) (ne_eqb k 0 (λ z. absurd (omega arith)))

pub numbered-next : {A : Type 0} (xs : List A) (i : ℕ) → numbered xs (i + 1) ≡ slice_get xs i
numbered-next xs i = past-zero xs (i + 1) (omega arith) ∙ ap (slice_get xs) (let e : i + 1 - 1 ≡ i = omega arith in e)

-- a number that is in the list
pub numbered-one : {A : Type 0} (xs : List A) (k : ℕ) (x : A) → numbered xs k ≡ Some x → (1 ≤ k) × (k ≤ length xs)
numbered-one {A} xs k x h = go (k == 0) refl h
  where
    go : (b : Bool) → (k == 0) ≡ b → cond b None (slice_get xs (k - 1)) ≡ Some x → (1 ≤ k) × (k ≤ length xs)
    go true e z = absurd (let q : None ≡ Some x = z in cc)
    go false e z =
        let apart : (k ≡ 0) → ⊥ = λ q. let p : false ≡ true = sym e ∙ eq-eqb k 0 q in cc in
        let one : 1 ≤ k = omega (arith, apart) in
        (one, omega (arith, one, slice_get_within xs (k - 1) x z))

-- what is at a place that is in the list, and what isn't
pub numbered-at : {A : Type 0} (xs : List A) (k : ℕ) (x : A) → 1 ≤ k → k - 1 < length xs → x ≡ get_or xs (k - 1) x → numbered xs k ≡ Some x
numbered-at xs k x one within is = past-zero xs k one ∙ slice_get_read xs (length xs) (k - 1) x refl within is

pub numbered-past : {A : Type 0} (xs : List A) (k : ℕ) → 1 ≤ k → length xs ≤ k - 1 → numbered xs k ≡ None
numbered-past xs k one past = past-zero xs k one ∙ slice_get_past xs (k - 1) past

-- a number in range is that of something
pub numbered-there : {A : Type 0} (xs : List A) (k : ℕ) → 1 ≤ k → k ≤ length xs → (x : A) × (numbered xs k ≡ Some x)
numbered-there {A} xs k one within = go xs refl
  where
    at : (y : A) (ys : List A) → ys ≡ xs → (x : A) × (numbered ys k ≡ Some x)
    at y ys e = (
      get_or ys (k - 1) y,
      past-zero ys k one ∙ slice_get-get_or ys (k - 1) y (let w : k - 1 < length ys = omega (arith, ap length e, one, within) in w),
    )

    go : (ys : List A) → ys ≡ xs → (x : A) × (numbered ys k ≡ Some x)
    go [] e = absurd (let long : length xs ≡ 0 = sym (ap length e) in omega (arith, one, within, long))
    go (y ∷ ys) e = at y (y ∷ ys) e

pub get-last : {A : Type 0} (xs : List A) (y : A) (i : ℕ) (x : A) → slice_get (xs ++ y ∷ []) i ≡ Some x → (slice_get xs i ≡ Some x) ⊎ ((i ≡ length xs) × (y ≡ x))
get-last [] y zero x h = inr (refl, cc)
get-last [] y (suc i) x h = absurd (let q : None ≡ Some x = h in cc)
get-last (z ∷ xs) y zero x h = inl h
get-last {A} (z ∷ xs) y (suc i) x h = go (get-last xs y i x h)
  where
    go : (slice_get xs i ≡ Some x) ⊎ ((i ≡ length xs) × (y ≡ x)) → (slice_get (z ∷ xs) (suc i) ≡ Some x) ⊎ ((suc i ≡ length (z ∷ xs)) × (y ≡ x))
    go (inl e) = inl e
    go (inr e) = inr (ap suc e.0, e.1)

-- what is in a list with one more
pub numbered-last : {A : Type 0} (xs : List A) (y : A) (k : ℕ) (x : A) → numbered (xs ++ y ∷ []) k ≡ Some x → (numbered xs k ≡ Some x) ⊎ ((k ≡ length xs + 1) × (y ≡ x))
numbered-last {A} xs y k x h = go (get-last xs y (k - 1) x (sym (past-zero (xs ++ y ∷ []) k one) ∙ h))
  where
    one : 1 ≤ k
    one = (numbered-one (xs ++ y ∷ []) k x h).0

    go : (slice_get xs (k - 1) ≡ Some x) ⊎ ((k - 1 ≡ length xs) × (y ≡ x)) → (numbered xs k ≡ Some x) ⊎ ((k ≡ length xs + 1) × (y ≡ x))
    go (inl e) = inl (past-zero xs k one ∙ e)
    go (inr e) = inr (omega (arith, one, e.0), e.1)

-- what is put into a list, and what it leaves

pub numbered-set-here : {A : Type 0} (xs : List A) (k : ℕ) (x y : A) → numbered xs k ≡ Some x → numbered (slice_set xs (k - 1) y) k ≡ Some y
numbered-set-here xs k x y h =
    let in_range = numbered-one xs k x h in
    let within : k - 1 < length xs = omega (arith, in_range.0, in_range.1) in
    past-zero (set xs (k - 1) y) k in_range.0 ∙ slice_get-get_or (set xs (k - 1) y) (k - 1) y (let w : k - 1 < length (set xs (k - 1) y) = omega (arith, within, length-set xs (k - 1) y) in w)
    ∙ ap Some (get_or-set_same xs (k - 1) y y within)

slice_get-set-there : {A : Type 0} (xs : List A) (i j : ℕ) (y : A) → j ≢ i → slice_get (set xs i y) j ≡ slice_get xs j
slice_get-set-there [] i j y apart = refl
slice_get-set-there (x ∷ xs) zero zero y apart = absurd (apart refl)
slice_get-set-there (x ∷ xs) zero (suc j) y apart = refl
slice_get-set-there (x ∷ xs) (suc i) zero y apart = refl
slice_get-set-there (x ∷ xs) (suc i) (suc j) y apart = slice_get-set-there xs i j y (λ e. apart (ap suc e))

pub numbered-set-there : {A : Type 0} (xs : List A) (k d : ℕ) (y : A) → 1 ≤ k → d ≢ k → numbered (slice_set xs (k - 1) y) d ≡ numbered xs d
numbered-set-there {A} xs k d y one apart = go (d == 0) refl
  where
    go : (b : Bool) → (d == 0) ≡ b → cond b None (slice_get (set xs (k - 1) y) (d - 1)) ≡ cond b None (slice_get xs (d - 1))
    go true e = refl
    go false e =
        let past : d ≢ 0 = λ q. let p : false ≡ true = sym e ∙ eq-eqb d 0 q in cc in
        slice_get-set-there xs (k - 1) (d - 1) y (λ q. apart (omega (arith, one, past, q)))
