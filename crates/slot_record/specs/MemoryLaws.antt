-- A plate in memory is a plate.
use Rattle.std.specs.Prelude.{◌≡◌, ℕ, zero, suc, ◌+◌, ◌≤◌, List, [], ◌∷◌, length, take, drop, refl}
use Rattle.std.proofs.Common.{inl, inr, sym, ◌∙◌, ap, arith}
use Rattle.slot_record.specs.Images.{Image, DiffersWithin}
use Rattle.slot_record.specs.Plates.{IsPlate}
use Rattle.slot_record.specs.MemoryPlates.{PlateCall, Idle, Written, Torn, Synced, Memory, put, content, MayLeave, LeftSince, state_of}

pub length_of_put : (at : ℕ) (bytes : List ℕ) (image : Image) → length (put at bytes image) ≡ length image
length_of_put zero [] image = refl
length_of_put zero (b ∷ bytes) [] = refl
length_of_put zero (b ∷ bytes) (x ∷ image) = ap (λ (n : ℕ). suc n) (length_of_put zero bytes image)
length_of_put (suc at) bytes [] = refl
length_of_put (suc at) bytes (x ∷ image) = ap (λ (n : ℕ). suc n) (length_of_put at bytes image)

take_below_put : (at : ℕ) (bytes : List ℕ) (image : Image) → take at (put at bytes image) ≡ take at image
take_below_put zero bytes image = refl
take_below_put (suc at) bytes [] = refl
take_below_put (suc at) bytes (x ∷ image) = ap (λ (l : Image). x ∷ l) (take_below_put at bytes image)

drop_behind_first : (bytes : List ℕ) (image : Image) → drop (length bytes) (put zero bytes image) ≡ drop (length bytes) image
drop_behind_first [] image = refl
drop_behind_first (b ∷ bytes) [] = refl
drop_behind_first (b ∷ bytes) (x ∷ image) = drop_behind_first bytes image

drop_behind_put : (at n : ℕ) (bytes : List ℕ) (image : Image) → n ≡ at + length bytes → drop n (put at bytes image) ≡ drop n image
drop_behind_put zero n bytes image is =
    let e : n ≡ length bytes = omega arith in
    ap (λ (k : ℕ). drop k (put zero bytes image)) e ∙ drop_behind_first bytes image ∙ ap (λ (k : ℕ). drop k image) (sym e)
drop_behind_put (suc at) zero bytes image is = absurd (omega arith)
drop_behind_put (suc at) (suc n) bytes [] is = refl
drop_behind_put (suc at) (suc n) bytes (x ∷ image) is = drop_behind_put at n bytes image (omega arith)

pub put_differs : (at : ℕ) (bytes : List ℕ) (image : Image) → DiffersWithin at (length bytes) image (put at bytes image)
put_differs at bytes image = record {
  before = take_below_put at bytes image;
  behind = drop_behind_put at (at + length bytes) bytes image refl;
  length = length_of_put at bytes image;
}

pub same_differs : (at n : ℕ) (image : Image) → DiffersWithin at n image image
same_differs at n image = record { before = refl; behind = refl; length = refl }

pub length_of_content : (first : Image) (calls : List PlateCall) → length (content first calls) ≡ length first
length_of_content first [] = refl
length_of_content first (Idle ∷ calls) = length_of_content first calls
length_of_content first (Written at bytes ∷ calls) = length_of_put at bytes (content first calls) ∙ length_of_content first calls
length_of_content first (Torn at n ∷ calls) = length_of_content first calls
length_of_content first (Synced ∷ calls) = length_of_content first calls

whole : (first : Image) (calls : List PlateCall) (c : Image) → MayLeave first calls c → length c ≡ length first
whole first [] c left = ap (λ (l : Image). length l) left
whole first (Idle ∷ calls) c left = whole first calls c left
whole first (Written at bytes ∷ calls) c left = left.2.length ∙ whole first calls left.0 left.1
whole first (Torn at n ∷ calls) c left = left.2.length ∙ whole first calls left.0 left.1
whole first (Synced ∷ calls) c left = ap (λ (l : Image). length l) left ∙ length_of_content first calls

pub seen_may_be_left : (first : Image) (calls : List PlateCall) → MayLeave first calls (content first calls)
seen_may_be_left first [] = refl
seen_may_be_left first (Idle ∷ calls) = seen_may_be_left first calls
seen_may_be_left first (Written at bytes ∷ calls) = (content first calls, seen_may_be_left first calls, put_differs at bytes (content first calls))
seen_may_be_left first (Torn at n ∷ calls) = (content first calls, seen_may_be_left first calls, same_differs at n (content first calls))
seen_may_be_left first (Synced ∷ calls) = refl

now_counts : (first : Image) (calls : List PlateCall) (t : ℕ) (c : Image) → MayLeave first calls c → LeftSince first calls t c
now_counts first [] t c left = left
now_counts first (call ∷ calls) t c left = inl left

only_now : (first : Image) (calls : List PlateCall) (c : Image) → LeftSince first calls (length calls) c → MayLeave first calls c
only_now first [] c left = left
only_now first (call ∷ calls) c (inl left) = left
only_now first (call ∷ calls) c (inr past) = let none : suc (length calls) ≤ length calls = past.0 in absurd (omega (arith, none))

pub memory_is_plate : (m : Memory) → IsPlate (state_of m)
memory_is_plate m = record {
  whole = whole m.first m.calls;
  seen_may_be_left = seen_may_be_left m.first m.calls;
  now_counts = λ t c le left. now_counts m.first m.calls t c left;
  only_now = only_now m.first m.calls;
}
