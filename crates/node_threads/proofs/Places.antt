-- The tasks that are made place by place: the numbers of their actors, and their links.
use Rattle.std.proofs.Common.{◌≡◌, ℕ, ◌+◌, ◌<◌, List, [], ◌∷◌, ◌++◌, length, take, drop, get_or, map, zero, suc, sym, ◌∙◌, ap, arith}
use Rattle.std.specs.List.{remove, range_with_len}
use Rattle.std.proofs.lemmas.List.{map-append, append_assoc, append-nil, nil_from_length, take-append-drop}

-- one number more
counting : (a n j : ℕ) → a + n ≡ j → range_with_len a (suc n) ≡ range_with_len a n ++ j ∷ []
counting a zero j e = let same : a ≡ j = omega arith in ap (λ k. k ∷ []) same
counting a (suc n) j e = ap (λ l. a ∷ l) (counting (a + 1) n j (omega arith))

-- one task more, of the next actor
pub one_more_named : {X : Type 0} (f : X → ℕ) (xs ys : List X) (x : X) (place : ℕ) → map f xs ≡ range_with_len 1 place → ys ≡ xs ++ x ∷ [] → f x ≡ place + 1 → map f ys ≡ range_with_len 1 (place + 1)
one_more_named f xs ys x place before at named =
    let more : place + 1 ≡ suc place = omega arith in
    ap (map f) at ∙ map-append f xs (x ∷ []) ∙ ap (λ l. l ++ f x ∷ []) before ∙ sym (ap (range_with_len 1) more ∙ counting 1 place (f x) (omega (arith, named)))

-- a link that is taken away from the front, for one task more
pub one_more_linked : {X Y : Type 0} (f : X → Y) (xs xs' : List X) (x : X) (ys ys' all : List Y) (y : Y) → map f xs ++ ys ≡ all → xs' ≡ xs ++ x ∷ [] → f x ≡ y → 0 < length ys → y ≡ get_or ys 0 y →
    ys' ≡ remove ys 0 → map f xs' ++ ys' ≡ all
one_more_linked f xs xs' x [] ys' all y before at linked some first rest = absurd (omega arith)
one_more_linked f xs xs' x (b ∷ ys) ys' all y before at linked some first rest =
    ap (λ l. map f l ++ ys') at ∙ ap (λ l. l ++ ys') (map-append f xs (x ∷ [])) ∙ ap (λ l. map f xs ++ f x ∷ [] ++ l) rest ∙ append_assoc (map f xs) (f x ∷ []) ys
    ∙ ap (λ z. map f xs ++ z ∷ ys) (linked ∙ first) ∙ before

-- all links are taken
pub all_linked : {X Y : Type 0} (f : X → Y) (xs : List X) (ys all : List Y) → length ys ≡ 0 → map f xs ++ ys ≡ all → map f xs ≡ all
all_linked f xs ys all none before = sym (append-nil (map f xs)) ∙ ap (λ l. map f xs ++ l) (sym (nil_from_length ys none)) ∙ before

-- all actors have a task
pub all_named : {X : Type 0} (f : X → ℕ) (xs : List X) (place count : ℕ) → map f xs ≡ range_with_len 1 place → place ≡ count → map f xs ≡ range_with_len 1 count
all_named f xs place count before end = before ∙ ap (range_with_len 1) end

-- what is split at a place is whole again where both parts are joined
pub both_parts : {X : Type 0} (front back all : List X) (n : ℕ) → front ≡ take n all → back ≡ drop n all → front ++ back ≡ all
both_parts front back all n first rest = ap (λ l. l ++ back) first ∙ ap (λ l. take n all ++ l) rest ∙ take-append-drop n all

-- the links of two lists of tasks, as those that both were given, at as many places
pub joined_links : {X Y Z : Type 0} (f : X → Z) (h : Y → Z) (xs : List X) (ys : List Y) (front back : List Z) (link : ℕ → ℕ → Z) (n n' k k' : ℕ) → map f xs ≡ front → map h ys ≡ back →
    front ++ back ≡ map (link n) (range_with_len 0 k) → n ≡ n' → k ≡ k' → map f xs ++ map h ys ≡ map (link n') (range_with_len 0 k')
joined_links f h xs ys front back link n n' k k' first rest both nodes all =
    ap (λ l. l ++ map h ys) first ∙ ap (λ l. front ++ l) rest ∙ both ∙ ap (λ i. map (link i) (range_with_len 0 k)) nodes ∙ ap (λ i. map (link n') (range_with_len 0 i)) all
