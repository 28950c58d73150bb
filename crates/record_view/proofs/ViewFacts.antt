-- What opening finds on a plate in memory is what it finds on its bytes.
use Rattle.std.proofs.Common.{◌≡◌, ℕ, List, length, Option, Some, None, sym, ◌∙◌, ap, subst, arith}
use Rattle.std.specs.Option.{option_map}
use Rattle.std.proofs.lemmas.List.{take_all}
use Rattle.slot_record.specs.Images.{Image, IsWritten}
use Rattle.slot_record.specs.Plates.{Only, LeavesOnly}
use Rattle.slot_record.specs.MemoryPlates.{Memory, content, state_of}
use Rattle.slot_record.specs.MemoryLaws.{seen_may_be_left}
use Rattle.record_view.specs.Views.{IsImageOf}

-- a whole image that was written is these bytes
pub whole_image : (bytes old new : Image) → length old ≡ length bytes → IsWritten 0 bytes old new → new ≡ bytes
whole_image bytes old new long w =
    let same : length new ≡ length bytes = w.outside.length ∙ long in
    sym (take_all (length bytes) new (omega (arith, same))) ∙ w.inside

pub written_image : (bytes old : Image) (m n : Memory) → length old ≡ length bytes → IsWritten 0 bytes old (state_of m).seen → Only (state_of m).seen (state_of n) → IsImageOf bytes n
written_image bytes old m n long w only = record { synced = subst (λ (i : Image). Only i (state_of n)) (whole_image bytes old (state_of m).seen long w) only }

module _ (record_on : Image → Option (ℕ × List ℕ)) where
  abbrev body_on : Image → Option (List ℕ)
  body_on image = option_map (λ r. r.1) (record_on image)

  pub found_on_bytes : (bytes items c : Image) (sequence : ℕ) (m : Memory) → IsImageOf bytes m → (state_of m).may_leave c → record_on c ≡ Some (sequence, items) → Some items ≡ body_on bytes
  found_on_bytes bytes items c sequence m image left is = sym (ap body_on (sym (image.synced c left)) ∙ ap (option_map (λ r. r.1)) is)

  pub none_on_bytes : (bytes : Image) (m n : Memory) → IsImageOf bytes m → LeavesOnly (state_of m) (state_of n) (state_of m).may_leave → ((c : Image) → (state_of n).may_leave c → record_on c ≡ None)
      → None ≡ body_on bytes
  none_on_bytes bytes m n image moments none =
      let seen = seen_may_be_left n.first n.calls in
      let c = content n.first n.calls in
      sym (ap body_on (sym (image.synced c (moments.now c seen))) ∙ ap (option_map (λ r. r.1)) (none c seen))
