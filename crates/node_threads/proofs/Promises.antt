-- Tasks that are handed to threads one after the other, and what the threads gave.
use Rattle.std.proofs.Common.{◌≡◌, ℕ, ◌<◌, List, [], ◌∷◌, ◌++◌, length, get_or, map, suc, refl, sym, ◌∙◌, ap, arith}
use Rattle.std.proofs.lemmas.List.{map-append, append_assoc, append-nil, nil_from_length}

-- a task more has its thread
pub one_more_started : {X Y Z : Type 0} (f : X → Z) (h : Y → Z) (xs xs' : List X) (ys ys' : List Y) (x : X) (y : Y) (all : List Z) → map f xs ++ map h ys ≡ all → ys ≡ y ∷ ys' → xs' ≡ xs ++ x ∷ [] → f x ≡ h y → map f xs' ++ map h ys' ≡ all
one_more_started f h xs xs' ys ys' x y all before at more same =
    ap (λ l. map f l ++ map h ys') more ∙ ap (λ l. l ++ map h ys') (map-append f xs (x ∷ [])) ∙ append_assoc (map f xs) (f x ∷ []) (map h ys')
    ∙ ap (λ z. map f xs ++ z ∷ map h ys') same ∙ sym (ap (λ l. map f xs ++ map h l) at) ∙ before

-- all tasks have theirs
pub all_started : {X Y Z : Type 0} (f : X → Z) (h : Y → Z) (xs : List X) (ys : List Y) (all : List Z) → map f xs ++ map h ys ≡ all → length ys ≡ 0 → map f xs ≡ all
all_started f h xs ys all before none = sym (append-nil (map f xs)) ∙ sym (ap (λ l. map f xs ++ map h l) (nil_from_length ys none)) ∙ before

-- what the elements at each place agree on
pub same_by_place : {X Y Z : Type 0} (f : X → Z) (h : Y → Z) (xs : List X) (ys : List Y) → length xs ≡ length ys → ((i : ℕ) (d : X) → i < length ys → (y : Y) × (y ≡ get_or ys i y) × (f (get_or xs i d) ≡ h y)) → map f xs ≡ map h ys
same_by_place f h [] [] long each = refl
same_by_place f h [] (y ∷ ys) long each = absurd (omega arith)
same_by_place f h (x ∷ xs) [] long each = absurd (omega arith)
same_by_place f h (x ∷ xs) (y ∷ ys) long each =
    let first = each 0 x (omega arith) in
    let here : f x ≡ h y = first.2 ∙ ap h first.1 in
    ap (λ z. z ∷ map f xs) here ∙ ap (λ l. h y ∷ l) (same_by_place f h xs ys (omega arith) (λ i d within. each (suc i) d (omega arith)))
