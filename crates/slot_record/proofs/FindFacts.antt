-- What is read of the slots is what stands there.
use Rattle.std.proofs.Common.{◌≡◌, ℕ, ◌+◌, Bool, true, false, cond, ltb, List, ◌++◌, length, get_or, take, Some, None, refl, sym, ◌∙◌, ap, arith}
use Rattle.std.specs.Int.{w32, w64, from_be_bytes}
use Rattle.std.proofs.lemmas.Bool.{eqb-true, eq-eqb}
use Rattle.std.proofs.lemmas.List.{take_at}
use Rattle.slot_record.specs.declared.slots.Slot.{Slot}
use Rattle.slot_record.specs.declared.slots.Slot.TheVariants.{First, Second}
use Rattle.slot_record.specs.declared.slots.TheConstants.{OPEN}
use Rattle.slot_record.specs.declared.heads.Head.{Head}
use Rattle.slot_record.specs.Images.{Image, part}
use Rattle.slot_record.specs.Plates.{PlateState, Only}
use Rattle.slot_record.specs.Slots.{start_of, head_on, body_of, rank}
use Rattle.slot_record.specs.Finding.{found_in, chosen, IsLookedUp}
use Rattle.slot_record.specs.ImageLaws.{part-part, get_or-part}
use Rattle.slot_record.proofs.SlotFacts.{heads_same}

-- a head by its bytes
pub head_read : (slot : Slot) (image : Image) (bytes : List ℕ) (head : Head) → bytes ≡ part (start_of slot) 13 image
    → head.gate ≡ get_or bytes 0 0 → head.sequence ≡ from_be_bytes w64 (part 1 8 bytes) → head.length ≡ from_be_bytes w32 (part 9 4 bytes) → head ≡ head_on slot image
unfolding head_on
head_read slot image bytes head is gate sequence length =
    let here : start_of slot + 0 ≡ start_of slot = omega arith in
    heads_same _ _ _ _ _ _
    (gate ∙ ap (λ (l : List ℕ). get_or l 0 0) is ∙ get_or-part (start_of slot) 13 0 image (omega arith) ∙ ap (λ (j : ℕ). get_or image j 0) here)
    (sequence ∙ ap (λ (l : List ℕ). from_be_bytes w64 (part 1 8 l)) is ∙ ap (from_be_bytes w64) (part-part (start_of slot) 13 1 8 image (omega arith)))
    (length ∙ ap (λ (l : List ℕ). from_be_bytes w32 (part 9 4 l)) is ∙ ap (from_be_bytes w32) (part-part (start_of slot) 13 9 4 image (omega arith)))

module _ (s : PlateState) (only : Only s.seen s) where
  abbrev first : Head
  first = head_on First s.seen

  abbrev second : Head
  second = head_on Second s.seen

  looked : (p q : Bool) → ltb (rank first) (rank second) ≡ p → ltb 0 (rank first) ≡ q → IsLookedUp s (cond p (Some (found_in Second second first)) (cond q (Some (found_in First first second)) None))
  looked true q e f = (
    record {
      synced = only;
      holder = ap (λ b. cond b (Some Second) (cond (ltb 0 (rank first)) (Some First) None)) e;
      sequence = refl;
      gate = (λ h. eqb-true first.gate OPEN h, λ h. eq-eqb first.gate OPEN h);
    },
    refl,
  )
  looked false true e f = (
    record {
      synced = only;
      holder = ap (λ b. cond b (Some Second) (cond (ltb 0 (rank first)) (Some First) None)) e ∙ ap (λ b. cond b (Some First) None) f;
      sequence = refl;
      gate = (λ h. eqb-true second.gate OPEN h, λ h. eq-eqb second.gate OPEN h);
    },
    refl,
  )
  looked false false e f = ap (λ b. cond b (Some Second) (cond (ltb 0 (rank first)) (Some First) None)) e ∙ ap (λ b. cond b (Some First) None) f

  pub looked_up : IsLookedUp s (chosen first second)
  looked_up = looked (ltb (rank first) (rank second)) (ltb 0 (rank first)) refl refl

-- a body by its bytes, at the front of a buffer
pub body_read : (own : Slot) (old new : Image) (at n m : ℕ) (bytes rest : List ℕ) → at ≡ start_of own + 13 → m ≡ n → n ≡ (head_on own old).length → length bytes ≡ m → bytes ≡ part at m old → new ≡ old → take n (bytes ++ rest) ≡ body_of own new
unfolding body_of
body_read own old new at n m bytes rest there same long size is stays =
    take_at bytes rest n (size ∙ same) ∙ is ∙ (λ i. part (there i) ((same ∙ long) i) old) ∙ ap (λ (image : Image). body_of own image) (sym stays)
