-- What holds of each of a list, where its first is taken.
use Rattle.std.proofs.Common.{◌≡◌, List, ◌∷◌, All, subst}
use Rattle.std.proofs.lemmas.List.Elements.{All-head, All-tail}

pub first_of : {X : Type 0} (x : X) (P : X → Type 0) (xs rest : List X) → xs ≡ x ∷ rest → All P xs → P x
first_of x P xs rest at all = All-head P x rest (subst (All P) at all)

pub rest_of : {X : Type 0} (x : X) (P : X → Type 0) (xs rest : List X) → xs ≡ x ∷ rest → All P xs → All P rest
rest_of x P xs rest at all = All-tail P x rest (subst (All P) at all)
