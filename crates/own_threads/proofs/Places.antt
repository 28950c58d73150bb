-- The tasks that are made place by place, of what is taken from the front.
use Rattle.std.proofs.Common.{◌≡◌, ℕ, ◌+◌, ◌<◌, List, [], ◌∷◌, ◌++◌, length, take, drop, get_or, map, zero, suc, sym, ◌∙◌, ap, arith}
use Rattle.std.specs.List.{remove, range_with_len}
use Rattle.std.proofs.lemmas.List.FromFn.{length-map-range_with_len}
use Rattle.std.proofs.lemmas.List.{length-map, map-append, append_assoc, append-nil, nil_from_length, take-append-drop}

-- one more is made, of the first that was left
pub one_more_made : {X Y Z : Type 0} (f : X → Z) (h : Y → Z) (xs xs' : List X) (x : X) (ys ys' : List Y) (all : List Z) (y : Y) → map f xs ++ map h ys ≡ all → xs' ≡ xs ++ x ∷ [] → f x ≡ h y → 0 < length ys → y ≡ get_or ys 0 y →
    ys' ≡ remove ys 0 → map f xs' ++ map h ys' ≡ all
one_more_made f h xs xs' x [] ys' all y before at made some first rest = absurd (omega arith)
one_more_made f h xs xs' x (b ∷ ys) ys' all y before at made some first rest =
    ap (λ l. map f l ++ map h ys') at ∙ ap (λ l. l ++ map h ys') (map-append f xs (x ∷ [])) ∙ ap (λ l. map f xs ++ f x ∷ [] ++ map h l) rest ∙ append_assoc (map f xs) (f x ∷ []) (map h ys)
    ∙ ap (λ z. map f xs ++ z ∷ map h ys) (made ∙ ap h first) ∙ before

-- one link more is taken
pub one_more_linked : {X Y : Type 0} (f : X → Y) (xs xs' : List X) (x : X) (ys ys' all : List Y) (y : Y) → map f xs ++ ys ≡ all → xs' ≡ xs ++ x ∷ [] → f x ≡ y → 0 < length ys → y ≡ get_or ys 0 y →
    ys' ≡ remove ys 0 → map f xs' ++ ys' ≡ all
one_more_linked f xs xs' x [] ys' all y before at linked some first rest = absurd (omega arith)
one_more_linked f xs xs' x (b ∷ ys) ys' all y before at linked some first rest =
    ap (λ l. map f l ++ ys') at ∙ ap (λ l. l ++ ys') (map-append f xs (x ∷ [])) ∙ ap (λ l. map f xs ++ f x ∷ [] ++ l) rest ∙ append_assoc (map f xs) (f x ∷ []) ys
    ∙ ap (λ z. map f xs ++ z ∷ ys) (linked ∙ first) ∙ before

-- all links are taken
pub all_linked : {X Y : Type 0} (f : X → Y) (xs : List X) (ys all : List Y) → length ys ≡ 0 → map f xs ++ ys ≡ all → map f xs ≡ all
all_linked f xs ys all none before = sym (append-nil (map f xs)) ∙ ap (λ l. map f xs ++ l) (sym (nil_from_length ys none)) ∙ before

-- what is split at a place is whole again where both parts are joined
pub both_parts : {X : Type 0} (front back all : List X) (n : ℕ) → front ≡ take n all → back ≡ drop n all → front ++ back ≡ all
both_parts front back all n first rest = ap (λ l. l ++ back) first ∙ ap (λ l. take n all ++ l) rest ∙ take-append-drop n all

counting : (a n j : ℕ) → a + n ≡ j → range_with_len a (suc n) ≡ range_with_len a n ++ j ∷ []
counting a zero j e = let same : a ≡ j = omega arith in ap (λ k. k ∷ []) same
counting a (suc n) j e = ap (λ l. a ∷ l) (counting (a + 1) n j (omega arith))

-- one more is made, for the next number
pub one_more_numbered : {X Z : Type 0} (f : X → Z) (h : ℕ → Z) (xs ys : List X) (x : X) (place : ℕ) → map f xs ≡ map h (range_with_len 1 place) → ys ≡ xs ++ x ∷ [] → f x ≡ h (place + 1) → map f ys ≡ map h (range_with_len 1 (place + 1))
one_more_numbered f h xs ys x place before at made =
    let more : place + 1 ≡ suc place = omega arith in
    let next : 1 + place ≡ place + 1 = omega arith in
    ap (map f) at ∙ map-append f xs (x ∷ []) ∙ ap (λ l. l ++ f x ∷ []) before ∙ ap (λ z. map h (range_with_len 1 place) ++ z ∷ []) made
    ∙ sym (ap (λ k. map h (range_with_len 1 k)) more ∙ ap (map h) (counting 1 place (place + 1) next) ∙ map-append h (range_with_len 1 place) ((place + 1) ∷ []))

-- what is made for so many numbers is so many
pub as_many : {X Z : Type 0} (f : X → Z) (h : ℕ → Z) (xs : List X) (count : ℕ) → map f xs ≡ map h (range_with_len 1 count) → length xs ≡ count
as_many f h xs count made = sym (length-map xs f) ∙ ap length made ∙ length-map-range_with_len h 1 count

-- lists with one image are as long
pub as_long : {X Y Z : Type 0} (f : X → Z) (h : Y → Z) (xs : List X) (ys : List Y) → map f xs ≡ map h ys → length xs ≡ length ys
as_long f h xs ys same = sym (length-map xs f) ∙ ap length same ∙ length-map ys h
