-- What the steps of a keep make together.
use Rattle.std.proofs.Common.{◌≡◌, ℕ, List, [], ◌∷◌, ◌∙◌, subst}
use Rattle.slot_record.specs.declared.slots.Slot.{Slot}
use Rattle.slot_record.specs.declared.standing.Standing.{Standing}
use Rattle.slot_record.specs.declared.standing.Standing.TheVariants.{Failed, Either}
use Rattle.slot_record.specs.Images.{Image}
use Rattle.slot_record.specs.Plates.{PlateState, IsPlate, LeavesOnly}
use Rattle.slot_record.specs.Slots.{other_of, body_of, record_on}
use Rattle.slot_record.specs.Records.{FindsAmong, IsFound, bodies_on}
use Rattle.slot_record.specs.Keeping.{Stays}
use Rattle.slot_record.specs.Moments.{weakened, chained}
use Rattle.slot_record.specs.KeepLaws.{stays_bodies, stays_found, first_of, second_of, among_both}

module _ (standing : Standing) (own : Slot) (old new : PlateState) (sound : IsPlate new) (stays : Stays standing own old new) where
  pub kept_bodies : bodies_on standing own new.seen ≡ bodies_on standing own old.seen
  kept_bodies = stays_bodies record_on (bodies_on standing own) old new sound stays

  pub kept_found : IsFound new standing own
  kept_found = stays_found record_on (bodies_on standing own) old new sound stays

module _ (own : Slot) (bytes : List ℕ) (s r q p : PlateState) where
  abbrev Found : Image → Type 0
  Found = FindsAmong (body_of own s.seen ∷ bytes ∷ [])

  pub closed_moments : Stays Failed own s r → LeavesOnly s r Found
  closed_moments one = weakened s r (FindsAmong (body_of own s.seen ∷ [])) Found one.moments (among_both record_on (body_of own s.seen) bytes)

  pub body_kept : IsPlate r → Stays Failed own s r → body_of own r.seen ≡ body_of own s.seen
  body_kept sound one = first_of (body_of own r.seen) (body_of own s.seen) (kept_bodies Failed own s r sound one)

  pub written_moments : IsPlate r → Stays Failed own s r → Stays Failed own r q → LeavesOnly s q Found
  written_moments sound one two =
      chained s r q Found (FindsAmong (body_of own r.seen ∷ [])) Found (closed_moments one) two.moments (λ i f. f)
      (λ i f. among_both record_on (body_of own s.seen) bytes i (subst (λ (b : List ℕ). FindsAmong (b ∷ []) i) (body_kept sound one) f))

module _ (own : Slot) (bytes : List ℕ) (s r q p : PlateState) (sound_r : IsPlate r) (sound_q : IsPlate q) (one : Stays Failed own s r) (two : Stays Failed own r q) where
  pub kept_twice : body_of own q.seen ≡ body_of own s.seen
  kept_twice = body_kept own bytes r q q q sound_q two ∙ body_kept own bytes s r q p sound_r one

  pub bodies_both : body_of (other_of own) q.seen ≡ bytes → bodies_on Either own q.seen ≡ body_of own s.seen ∷ bytes ∷ []
  bodies_both behind = λ i. kept_twice i ∷ behind i ∷ []

  pub opened_moments : body_of (other_of own) q.seen ≡ bytes → Stays Either own q p → LeavesOnly s p (FindsAmong (body_of own s.seen ∷ bytes ∷ []))
  opened_moments behind three =
      let F : Image → Type 0 = FindsAmong (body_of own s.seen ∷ bytes ∷ []) in
      chained s q p F (FindsAmong (bodies_on Either own q.seen)) F (written_moments own bytes s r q p sound_r one two) three.moments (λ i f. f)
      (λ i f. subst (λ (xs : List (List ℕ)). FindsAmong xs i) (bodies_both behind) f)

  pub opened_body : IsPlate p → body_of (other_of own) q.seen ≡ bytes → Stays Either own q p → body_of (other_of own) p.seen ≡ bytes
  opened_body sound behind three =
      second_of (body_of own p.seen) (body_of (other_of own) p.seen) (body_of own q.seen) (body_of (other_of own) q.seen) (kept_bodies Either own q p sound three) ∙ behind
