-- What was given to an inbox, one thing more and many more.
use Rattle.std.proofs.Common.{◌≡◌, List, [], ◌∷◌, ◌++◌, Option, Some, None, refl, ap, append_assoc, append-nil}
use Rattle.lossy_link.specs.Links.{one_more, all_more}

pub none_more : {X : Type 0} (given : Option (List X)) → all_more given [] ≡ given
none_more None = refl
none_more (Some ys) = ap Some (append-nil ys)

pub one_is_more : {X : Type 0} (before : Option (List X)) (x : X) → one_more before x ≡ all_more before (x ∷ [])
one_is_more None x = refl
one_is_more (Some zs) x = refl

pub more_and_more : {X : Type 0} (before : Option (List X)) (xs ys : List X) → all_more (all_more before xs) ys ≡ all_more before (xs ++ ys)
more_and_more None xs ys = refl
more_and_more (Some zs) xs ys = ap Some (append_assoc zs xs ys)
