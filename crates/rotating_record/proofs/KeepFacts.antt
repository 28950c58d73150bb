-- What the two steps of a keep make together.
use Rattle.std.specs.Result.{is_err}
use Rattle.std.proofs.Common.{◌≡◌, false, ℕ, List, [], ◌∷◌, Result, Ok, Err, OnOk, ◌∙◌, subst}
use Rattle.rotating_record.specs.declared.slots.Slot.{Slot}
use Rattle.slot_record.specs.declared.standing.Standing.{Standing}
use Rattle.slot_record.specs.declared.standing.Standing.TheVariants.{Failed, Either}
use Rattle.slot_record.specs.Images.{Image}
use Rattle.slot_record.specs.Plates.{PlateState, IsPlate, LeavesOnly}
use Rattle.rotating_record.specs.Slots.{after, body_of, record_on}
use Rattle.rotating_record.specs.Records.{FindsAmong, IsFound, bodies_on}
use Rattle.rotating_record.specs.Keeping.{Stays}
use Rattle.slot_record.specs.Moments.{weakened, chained}
use Rattle.slot_record.specs.KeepLaws.{stays_bodies, stays_found, first_of, second_of, among_both}

-- a fact of a call that gave no error
pub of_done : {T E : Type 0} (r : Result T E) (P : Type 0) → OnOk r P → is_err r ≡ false → P
of_done (Ok t) P p done = p
of_done (Err e) P p done = absurd cc

module _ (standing : Standing) (own : Slot) (old new : PlateState) (sound : IsPlate new) (stays : Stays standing own old new) where
  pub kept_bodies : bodies_on standing own new.seen ≡ bodies_on standing own old.seen
  kept_bodies = stays_bodies record_on (bodies_on standing own) old new sound stays

  pub kept_found : IsFound new standing own
  kept_found = stays_found record_on (bodies_on standing own) old new sound stays

module _ (own : Slot) (bytes : List ℕ) (s q p : PlateState) where
  pub prepared_moments : Stays Failed own s q → LeavesOnly s q (FindsAmong (body_of own s.seen ∷ bytes ∷ []))
  prepared_moments one = weakened s q (FindsAmong (body_of own s.seen ∷ [])) (FindsAmong (body_of own s.seen ∷ bytes ∷ [])) one.moments (among_both record_on (body_of own s.seen) bytes)

  pub body_kept : IsPlate q → Stays Failed own s q → body_of own q.seen ≡ body_of own s.seen
  body_kept sound one = first_of (body_of own q.seen) (body_of own s.seen) (kept_bodies Failed own s q sound one)

  pub bodies_both : IsPlate q → Stays Failed own s q → body_of (after own) q.seen ≡ bytes → bodies_on Either own q.seen ≡ body_of own s.seen ∷ bytes ∷ []
  bodies_both sound one behind = λ i. body_kept sound one i ∷ behind i ∷ []

  pub opened_moments : IsPlate q → Stays Failed own s q → body_of (after own) q.seen ≡ bytes → Stays Either own q p → LeavesOnly s p (FindsAmong (body_of own s.seen ∷ bytes ∷ []))
  opened_moments sound one behind two =
      let F : Image → Type 0 = FindsAmong (body_of own s.seen ∷ bytes ∷ []) in
      chained s q p F (FindsAmong (bodies_on Either own q.seen)) F (prepared_moments one) two.moments (λ i f. f)
      (λ i f. subst (λ (xs : List (List ℕ)). FindsAmong xs i) (bodies_both sound one behind) f)

  pub opened_body : IsPlate p → body_of (after own) q.seen ≡ bytes → Stays Either own q p → body_of (after own) p.seen ≡ bytes
  opened_body sound behind two =
      second_of (body_of own p.seen) (body_of (after own) p.seen) (body_of own q.seen) (body_of (after own) q.seen) (kept_bodies Either own q p sound two) ∙ behind
