-- What follows of the steps of a keep, in any format. Nothing here has to be believed: each line is proved from `Promises`.
use Rattle.std.proofs.Common.{◌≡◌, inl, ⊎_elim, ℕ, List, [], ◌∷◌, Result, Ok, Err, OnOk, sym, ◌∙◌, subst}
use Rattle.slot_record.specs.Images.{Image}
use Rattle.slot_record.specs.Plates.{PlateState, IsPlate}
use Rattle.slot_record.specs.Promises.{Opening, FindsOneOf, IsFoundBy, StaysBy}

-- two facts of a call that was done
pub both_ok : {T E : Type 0} (r : Result T E) (P Q R : Type 0) → OnOk r P → OnOk r Q → (P → Q → R) → OnOk r R
both_ok (Ok t) P Q R p q f = f p q
both_ok (Err e) P Q R p q f = tt

module _ (record_on : Opening) (bodies_on : Image → List (List ℕ)) (old new : PlateState) (sound : IsPlate new) (stays : StaysBy record_on bodies_on old new) where
  pub stays_bodies : bodies_on new.seen ≡ bodies_on old.seen
  stays_bodies = stays.same new.seen sound.seen_may_be_left

  pub stays_found : IsFoundBy record_on bodies_on new
  stays_found = record {
    finds = λ c left. subst (λ (xs : List (List ℕ)). FindsOneOf record_on xs c) (sym stays_bodies) (stays.moments.now c left);
    same = λ c left. stays.same c left ∙ sym stays_bodies;
  }

pub first_of : (a b : List ℕ) → (let xs : List (List ℕ) = a ∷ [] in let ys : List (List ℕ) = b ∷ [] in xs ≡ ys) → a ≡ b
first_of a b e = cc

pub second_of : (a b c d : List ℕ) → (let xs : List (List ℕ) = a ∷ b ∷ [] in let ys : List (List ℕ) = c ∷ d ∷ [] in xs ≡ ys) → b ≡ d
second_of a b c d e = cc

-- a body that opening finds is found among it and another one
pub among_both : (record_on : Opening) (b t : List ℕ) (c : Image) → FindsOneOf record_on (b ∷ []) c → FindsOneOf record_on (b ∷ t ∷ []) c
among_both record_on b t c found = (found.0, found.1, ⊎_elim (λ e. inl e) (λ none. absurd none) found.2)
