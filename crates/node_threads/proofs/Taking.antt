-- What holds of each of a list, where its first is taken.
use Rattle.std.proofs.Common.{◌≡◌, List, [], ◌∷◌, ◌++◌, map, All, sym, ◌∙◌, ap, subst}
use Rattle.std.proofs.lemmas.List.{append_assoc}
use Rattle.std.proofs.lemmas.List.Elements.{All-head, All-tail}

pub first_of : {X : Type 0} (x : X) (P : X → Type 0) (xs rest : List X) → xs ≡ x ∷ rest → All P xs → P x
first_of x P xs rest at all = All-head P x rest (subst (All P) at all)

pub rest_of : {X : Type 0} (x : X) (P : X → Type 0) (xs rest : List X) → xs ≡ x ∷ rest → All P xs → All P rest
rest_of x P xs rest at all = All-tail P x rest (subst (All P) at all)

-- what is made of the first joins what was made of those before
pub handed_more : {X Y : Type 0} (f : X → Y) (ys ys' : List Y) (xs xs' : List X) (x : X) (all : List Y) → ys ++ map f xs ≡ all → xs ≡ x ∷ xs' → ys' ≡ ys ++ f x ∷ [] → ys' ++ map f xs' ≡ all
handed_more f ys ys' xs xs' x all before at more = ap (λ l. l ++ map f xs') more ∙ append_assoc ys (f x ∷ []) (map f xs') ∙ sym (ap (λ l. ys ++ map f l) at) ∙ before
