-- The first of many, and one more of them.
use Rattle.std.proofs.Common.{◌≡◌, ℕ, suc, zero, ◌+◌, ◌≤◌, List, [], ◌∷◌, ◌++◌, map, replicate, take, refl, sym, ap, ◌∙◌, arith}
use Rattle.std.proofs.lemmas.List.{take-map, take-replicate, map-append}

-- where all are of one kind, the first ones are
pub first_ones : {A B : Type 0} (f : A → B) (xs ys : List A) (p : B) (n all : ℕ) → ys ≡ take n xs → map f xs ≡ replicate all p → n ≤ all → map f ys ≡ replicate n p
first_ones f xs ys p n all e h few = ap (map f) e ∙ sym (take-map f n xs) ∙ ap (take n) h ∙ take-replicate n all p few

-- and those of another kind may follow
pub then_ones : {A B : Type 0} (f : A → B) (xs ys zs : List A) (ps qs : List B) → zs ≡ xs ++ ys → map f xs ≡ ps → map f ys ≡ qs → map f zs ≡ ps ++ qs
then_ones f xs ys zs ps qs e h k = ap (map f) e ∙ map-append f xs ys ∙ ap (λ rs. rs ++ map f ys) h ∙ ap (λ rs. ps ++ rs) k

-- one more of that kind may be put behind them
one_more : {B : Type 0} (p : B) (n : ℕ) → replicate n p ++ p ∷ [] ≡ replicate (suc n) p
one_more p zero = refl
one_more p (suc n) = ap (λ ps. p ∷ ps) (one_more p n)

pub pushed : {A B : Type 0} (f : A → B) (xs ys : List A) (b : A) (p : B) (n : ℕ) → map f xs ≡ replicate n p → ys ≡ xs ++ b ∷ [] → f b ≡ p → map f ys ≡ replicate (n + 1) p
pushed f xs ys b p n h e k =
    let s : n + 1 ≡ suc n = omega arith in
    ap (map f) e ∙ map-append f xs (b ∷ []) ∙ ap (λ q. map f xs ++ q ∷ []) k ∙ ap (λ ps. ps ++ p ∷ []) h ∙ one_more p n ∙ ap (λ k. replicate k p) (sym s)
