-- What is among a list.
use Rattle.std.proofs.Common.{◌≡◌, ◌⊎◌, inl, inr, ℕ, ◌<◌, ◌≤◌, List, [], ◌∷◌, length, take, get_or, map, zero, suc, refl, sym, ap, subst, arith}
use Rattle.std.specs.List.{All, remove}
use Rattle.std.proofs.lemmas.List.Elements.{All-nil, All-cons, All-head, All-tail, All-weaker}
use Rattle.lock_model.specs.Decisions.{Among}

-- of each of a list, and of one in it
pub all_among : {X : Type 0} (P : X → Type 0) (x : X) (xs : List X) → Among x xs → All P xs → P x
all_among P x [] there each = absurd there
all_among P x (y ∷ xs) (inl same) each = subst P (sym same) (All-head P y xs each)
all_among P x (y ∷ xs) (inr there) each = all_among P x xs there (All-tail P y xs each)

pub from_among : {X : Type 0} (P : X → Type 0) (xs : List X) → ((x : X) → Among x xs → P x) → All P xs
from_among P [] of = All-nil P
from_among P (x ∷ xs) of = All-cons P x xs (of x (inl refl)) (from_among P xs (λ y there. of y (inr there)))

pub among_map : {X Y : Type 0} (f : X → Y) (x : X) (xs : List X) → Among x xs → Among (f x) (map f xs)
among_map f x [] there = absurd there
among_map f x (y ∷ xs) (inl same) = inl (ap f same)
among_map f x (y ∷ xs) (inr there) = inr (among_map f x xs there)

-- what stands at a place, what is left without it, and the others
pub at_among : {X : Type 0} (xs : List X) (i : ℕ) (d : X) → i < length xs → Among (get_or xs i d) xs
at_among [] i d within = absurd (omega (arith, within))
at_among (x ∷ xs) zero d within = inl refl
at_among (x ∷ xs) (suc i) d within = inr (at_among xs i d (omega (arith, within)))

pub all_taken : {X : Type 0} (P : X → Type 0) (xs : List X) (n : ℕ) → length xs ≤ n → All P (take n xs) → All P xs
all_taken P [] n long each = All-nil P
all_taken P (x ∷ xs) zero long each = absurd (omega (arith, long))
all_taken P (x ∷ xs) (suc n) long each = All-cons P x xs (All-head P x (take n xs) each) (all_taken P xs n (omega (arith, long)) (All-tail P x (take n xs) each))

pub fewer_among : {X : Type 0} (xs : List X) (i : ℕ) → i < length xs → All (λ y. Among y xs) (remove xs i)
fewer_among [] i within = absurd (omega (arith, within))
fewer_among (x ∷ xs) zero within = from_among (λ y. Among y (x ∷ xs)) xs (λ y there. inr there)
fewer_among (x ∷ xs) (suc i) within =
    All-cons (λ y. Among y (x ∷ xs)) x (remove xs i) (inl refl) (All-weaker (λ y. Among y xs) (λ y. Among y (x ∷ xs)) (λ y there. inr there) (remove xs i) (fewer_among xs i (omega (arith, within))))

pub others_among : {X : Type 0} (xs : List X) (i : ℕ) (d : X) → i < length xs → All (λ y. (y ≡ get_or xs i d) ⊎ Among y (remove xs i)) xs
others_among [] i d within = absurd (omega (arith, within))
others_among (x ∷ xs) zero d within = All-cons (λ y. (y ≡ x) ⊎ Among y xs) x xs (inl refl) (from_among (λ y. (y ≡ x) ⊎ Among y xs) xs (λ y there. inr there))
others_among (x ∷ xs) (suc i) d within =
    let z = get_or xs i d in
    All-cons (λ y. (y ≡ z) ⊎ Among y (x ∷ remove xs i)) x xs (inr (inl refl))
    (All-weaker (λ y. (y ≡ z) ⊎ Among y (remove xs i)) (λ y. (y ≡ z) ⊎ Among y (x ∷ remove xs i)) (λ y h. behind y h) xs (others_among xs i d (omega (arith, within))))
  where
    behind : (y : _) → (y ≡ get_or xs i d) ⊎ Among y (remove xs i) → (y ≡ get_or xs i d) ⊎ Among y (x ∷ remove xs i)
    behind y (inl same) = inl same
    behind y (inr there) = inr (inr there)
