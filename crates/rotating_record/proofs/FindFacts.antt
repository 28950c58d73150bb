-- What is read of the slots is what stands there.
use Rattle.std.proofs.Common.{◌≡◌, ℕ, ◌+◌, Bool, true, false, cond, eqb, List, ◌++◌, length, get_or, take, Some, None, refl, sym, ◌∙◌, ap, arith}
use Rattle.std.specs.Int.{w32, w64, from_be_bytes}
use Rattle.std.proofs.lemmas.List.{take_at}
use Rattle.slot_record.specs.Images.{Image, part}
use Rattle.slot_record.specs.Plates.{PlateState, Only}
use Rattle.rotating_record.specs.declared.slots.Slot.{Slot}
use Rattle.rotating_record.specs.declared.slots.Slot.TheVariants.{First, Second, Third}
use Rattle.rotating_record.specs.declared.slots.TheConstants.{MARK}
use Rattle.rotating_record.specs.declared.heads.Head.{Head}
use Rattle.rotating_record.specs.Slots.{start_of, mark_on, head_on, body_of, has_record, holder}
use Rattle.rotating_record.specs.Finding.{found_in, chosen, IsLookedUp}
use Rattle.slot_record.specs.ImageLaws.{part-part, get_or-part}
use Rattle.rotating_record.proofs.SlotFacts.{heads_same}

-- a head by its gate and its numbers
pub head_read : (slot : Slot) (image : Image) (gate numbers : List ℕ) (head : Head) → gate ≡ part (start_of slot) 1 image → numbers ≡ part (start_of slot + 4096) 12 image
    → head.gate ≡ get_or gate 0 0 → head.sequence ≡ from_be_bytes w64 (part 0 8 numbers) → head.length ≡ from_be_bytes w32 (part 8 4 numbers) → head ≡ head_on slot image
unfolding head_on
head_read slot image gate numbers head one two is sequence length =
    let here : start_of slot + 0 ≡ start_of slot = omega arith in
    let there : start_of slot + 4096 + 0 ≡ start_of slot + 4096 = omega arith in
    let behind : start_of slot + 4096 + 8 ≡ start_of slot + 4104 = omega arith in
    heads_same _ _ _ _ _ _
    (is ∙ ap (λ (l : List ℕ). get_or l 0 0) one ∙ get_or-part (start_of slot) 1 0 image (omega arith) ∙ ap (λ (j : ℕ). get_or image j 0) here)
    (sequence ∙ ap (λ (l : List ℕ). from_be_bytes w64 (part 0 8 l)) two ∙ ap (from_be_bytes w64) (part-part (start_of slot + 4096) 12 0 8 image (omega arith) ∙ ap (λ (j : ℕ). part j 8 image) there))
    (length ∙ ap (λ (l : List ℕ). from_be_bytes w32 (part 8 4 l)) two ∙ ap (from_be_bytes w32) (part-part (start_of slot + 4096) 12 8 4 image (omega arith) ∙ ap (λ (j : ℕ). part j 4 image) behind))

pub mark_read : (image : Image) (bytes : List ℕ) (mark : ℕ) → bytes ≡ part 0 8 image → mark ≡ from_be_bytes w64 bytes → mark ≡ mark_on image
unfolding mark_on
mark_read image bytes mark is number = number ∙ ap (from_be_bytes w64) is

module _ (s : PlateState) (only : Only s.seen s) where
  abbrev a : Head
  a = head_on First s.seen

  abbrev b : Head
  b = head_on Second s.seen

  abbrev c : Head
  c = head_on Third s.seen

  looked : (p x y z : Bool) → eqb (mark_on s.seen) MARK ≡ p → has_record a b ≡ x → has_record b c ≡ y → has_record c a ≡ z
      → IsLookedUp s (cond p (cond x (Some (found_in First a)) (cond y (Some (found_in Second b)) (cond z (Some (found_in Third c)) None))) None)
  unfolding holder
  looked true true y z m e f g = (
    record {
      synced = only;
      holder = λ i. cond (m i) (cond (e i) (Some First) (cond (has_record b c) (Some Second) (cond (has_record c a) (Some Third) None))) None;
      sequence = refl;
    },
    refl,
  )
  looked true false true z m e f g = (
    record {
      synced = only;
      holder = λ i. cond (m i) (cond (e i) (Some First) (cond (f i) (Some Second) (cond (has_record c a) (Some Third) None))) None;
      sequence = refl;
    },
    refl,
  )
  looked true false false true m e f g = (
    record {
      synced = only;
      holder = λ i. cond (m i) (cond (e i) (Some First) (cond (f i) (Some Second) (cond (g i) (Some Third) None))) None;
      sequence = refl;
    },
    refl,
  )
  looked true false false false m e f g = λ i. cond (m i) (cond (e i) (Some First) (cond (f i) (Some Second) (cond (g i) (Some Third) None))) None
  looked false x y z m e f g = λ i. cond (m i) (cond (has_record a b) (Some First) (cond (has_record b c) (Some Second) (cond (has_record c a) (Some Third) None))) None

  pub looked_up : IsLookedUp s (chosen (mark_on s.seen) a b c)
  looked_up = looked (eqb (mark_on s.seen) MARK) (has_record a b) (has_record b c) (has_record c a) refl refl refl refl

-- a body by its bytes, at the front of a buffer
pub body_read : (own : Slot) (old new : Image) (at n m : ℕ) (bytes rest : List ℕ) → at ≡ start_of own + 4108 → m ≡ n → n ≡ (head_on own old).length → length bytes ≡ m → bytes ≡ part at m old → new ≡ old → take n (bytes ++ rest) ≡ body_of own new
unfolding body_of
body_read own old new at n m bytes rest there same long size is stays =
    take_at bytes rest n (size ∙ same) ∙ is ∙ (λ i. part (there i) ((same ∙ long) i) old) ∙ ap (λ (image : Image). body_of own image) (sym stays)
