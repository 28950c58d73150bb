-- What follows of bytes that are put into an image. Nothing here has to be believed: each line is proved from
-- `MemoryPlates`.
use Rattle.std.proofs.Common.{◌≡◌, ℕ, zero, suc, ◌+◌, ◌-◌, ◌≤◌, List, [], ◌∷◌, ◌++◌, length, take, drop, refl, sym, ◌∙◌, ap, subst, arith}
use borrow.Rule.Slice.PartMut.{put_mid}
use Rattle.slot_record.specs.Images.{Image, part, IsWritten}
use Rattle.slot_record.specs.MemoryPlates.{PlateCall, Written, put, IsMemory}
use Rattle.slot_record.specs.MemoryLaws.{length_of_put, put_differs}

put_front : (bytes image : List ℕ) → length bytes ≤ length image → put zero bytes image ≡ bytes ++ drop (length bytes) image
put_front [] image le = refl
put_front (b ∷ bytes) [] le = absurd (omega arith)
put_front (b ∷ bytes) (x ∷ image) le = ap (λ (l : Image). b ∷ l) (put_front bytes image (omega arith))

-- within the image it is a write to a part of it
put_is : (at : ℕ) (bytes image : List ℕ) → at + length bytes ≤ length image → put at bytes image ≡ take at image ++ (bytes ++ drop (length bytes) (drop at image))
put_is zero bytes image le = put_front bytes image (omega arith)
put_is (suc at) bytes [] le = absurd (omega arith)
put_is (suc at) bytes (x ∷ image) le = ap (λ (l : Image). x ∷ l) (put_is at bytes image (omega arith))

pub put_mid-put : (at n : ℕ) (image bytes : List ℕ) → n ≡ length bytes → at + length bytes ≤ length image → put_mid at (at + n - at) image bytes ≡ put at bytes image
put_mid-put at n image bytes is le =
    let k : at + n - at ≡ length bytes = omega (arith, is) in
    ap (λ (j : ℕ). put_mid at j image bytes) k ∙ sym (put_is at bytes image le)

part_first : (bytes image : List ℕ) → length bytes ≤ length image → take (length bytes) (put zero bytes image) ≡ bytes
part_first [] image le = refl
part_first (b ∷ bytes) [] le = absurd (omega arith)
part_first (b ∷ bytes) (x ∷ image) le = ap (λ (l : Image). b ∷ l) (part_first bytes image (omega arith))

part_put : (at : ℕ) (bytes image : List ℕ) → at + length bytes ≤ length image → part at (length bytes) (put at bytes image) ≡ bytes
part_put zero bytes image le = part_first bytes image (omega arith)
part_put (suc at) bytes [] le = absurd (omega arith)
part_put (suc at) bytes (x ∷ image) le = part_put at bytes image (omega arith)

pub put_writes : (at : ℕ) (bytes image : List ℕ) → at + length bytes ≤ length image → IsWritten at bytes image (put at bytes image)
put_writes at bytes image le = record { outside = put_differs at bytes image; inside = part_put at bytes image le }

-- a write was recorded and made
pub memory_written : (at : ℕ) (bytes old new first : List ℕ) (calls later : List PlateCall) → IsMemory old first calls → at + length bytes ≤ length first → new ≡ put at bytes old → later ≡ Written at bytes ∷ calls → IsMemory new first later
memory_written at bytes old new first calls later m le is more =
    subst (λ (l : List PlateCall). IsMemory new first l) (sym more) (record {
      content = is ∙ ap (λ (i : Image). put at bytes i) m.content;
      long = ap (λ (i : Image). length i) is ∙ length_of_put at bytes old ∙ m.long;
      small = m.small;
      within = (le, m.within);
    })
