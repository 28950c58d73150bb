-- What a write that a crash may tear leaves of the slots, and which slot has the record.
use Rattle.std.proofs.Common.{◌≡◌, ◌≢◌, ◌⊎◌, inl, inr, ℕ, ◌+◌, ◌<◌, ◌≤◌, ◌^◌, Bool, true, false, not, cond, ◌&&◌, eqb, leb, List, [], ◌∷◌, length, get_or, Option, Some, None, refl, sym, ◌∙◌, ap, arith}
use Rattle.std.specs.Option.{option_map}
use Rattle.std.proofs.lemmas.Bool.{eqb-true}
use Rattle.std.proofs.lemmas.Bool.Decides.{nat_tests}
use Rattle.std.proofs.lemmas.Nat.{from_be_bytes-to_be_bytes_4, from_be_bytes-to_be_bytes_8}
use Rattle.std.specs.Int.{w32, w64, to_be_bytes, from_be_bytes}
use Rattle.stable_record.specs.declared.formats.TheConstants.{MAX_RECORD_LEN}
use Rattle.slot_record.specs.declared.slots.TheConstants.{OPEN, MAX_SEQUENCE}
use Rattle.slot_record.specs.Images.{Image, part, DiffersWithin, IsWritten}
use Rattle.rotating_record.specs.declared.slots.Slot.{Slot}
use Rattle.rotating_record.specs.declared.slots.Slot.TheVariants.{First, Second, Third}
use Rattle.rotating_record.specs.declared.slots.TheConstants.{MARK}
use Rattle.rotating_record.specs.declared.heads.Head.{Head}
use Rattle.rotating_record.specs.Slots.{start_of, after, mark_on, head_on, body_of, counts, has_record, holder, holder_on, found_on, numbers_of}
use Rattle.slot_record.specs.ImageLaws.{part_before, part_behind, index_before, index_behind, part-part, get_or-part}

-- a slot is the same in two images
pub record SameSlot (slot : Slot) (old new : Image) : Type 0 where
  pub head : head_on slot new ≡ head_on slot old
  pub body : body_of slot new ≡ body_of slot old

pub heads_same : (g g' s s' l l' : ℕ) → g ≡ g' → s ≡ s' → l ≡ l' → let a : Head = record { gate = g; sequence = s; length = l } in let b : Head = record { gate = g'; sequence = s'; length = l' } in a ≡ b
heads_same g g' s s' l l' p q r = λ i. record { gate = p i; sequence = q i; length = r i }

-- n bytes from one place on lie apart from m bytes from another one on
abbrev pub Apart : ℕ → ℕ → ℕ → ℕ → Type 0
Apart at n i m = (i + m ≤ at) ⊎ (at + n ≤ i)

-- so do they from a part of those
within : (at n i m j k : ℕ) → Apart at n i m → i ≤ j → j + k ≤ i + m → Apart at n j k
within at n i m j k (inl le) low high = inl (omega (arith, le, low, high))
within at n i m j k (inr le) low high = inr (omega (arith, le, low, high))

module _ (at n : ℕ) (old new : Image) (d : DiffersWithin at n old new) where
  part_apart : (i m : ℕ) → Apart at n i m → part i m new ≡ part i m old
  part_apart i m (inl le) = part_before at n old new d i m le
  part_apart i m (inr le) = part_behind at n old new d i m le

  index_apart : (i : ℕ) → Apart at n i 1 → get_or new i 0 ≡ get_or old i 0
  index_apart i (inl le) = index_before at n old new d i (omega (arith, le))
  index_apart i (inr le) = index_behind at n old new d i le

  pub mark_apart : 8 ≤ at → mark_on new ≡ mark_on old
  unfolding mark_on
  mark_apart le = ap (from_be_bytes w64) (part_before at n old new d 0 8 le)

  pub gate_apart : (slot : Slot) → Apart at n (start_of slot) 1 → (head_on slot new).gate ≡ (head_on slot old).gate
  unfolding head_on
  gate_apart slot apart = index_apart (start_of slot) apart

  pub sequence_apart : (slot : Slot) → Apart at n (start_of slot + 4096) 8 → (head_on slot new).sequence ≡ (head_on slot old).sequence
  unfolding head_on
  sequence_apart slot apart = ap (from_be_bytes w64) (part_apart (start_of slot + 4096) 8 apart)

  pub length_apart : (slot : Slot) → Apart at n (start_of slot + 4104) 4 → (head_on slot new).length ≡ (head_on slot old).length
  unfolding head_on
  length_apart slot apart = ap (from_be_bytes w32) (part_apart (start_of slot + 4104) 4 apart)

  pub body_apart : (slot : Slot) → (head_on slot new).length ≡ (head_on slot old).length → Apart at n (start_of slot + 4108) (head_on slot old).length → body_of slot new ≡ body_of slot old
  unfolding body_of
  body_apart slot same apart = ap (λ (m : ℕ). part (start_of slot + 4108) m new) same ∙ part_apart (start_of slot + 4108) (head_on slot old).length apart

  -- a slot that lies apart is the same
  pub slot_apart : (slot : Slot) → Apart at n (start_of slot) 65536 → (head_on slot old).length ≤ MAX_RECORD_LEN → SameSlot slot old new
  slot_apart slot apart fits =
      let s = start_of slot in
      let gate = gate_apart slot (within at n s 65536 s 1 apart (omega arith) (omega arith)) in
      let sequence = sequence_apart slot (within at n s 65536 (s + 4096) 8 apart (omega arith) (omega arith)) in
      let long = length_apart slot (within at n s 65536 (s + 4104) 4 apart (omega arith) (omega arith)) in
      record {
        head = heads_same _ _ _ _ _ _ gate sequence long;
        body = body_apart slot long (within at n s 65536 (s + 4108) (head_on slot old).length apart (omega arith) (omega (arith, fits)));
      }

-- ---- what is written

pub written_gate : (slot : Slot) (g : ℕ) (old new : Image) → IsWritten (start_of slot) (g ∷ []) old new → (head_on slot new).gate ≡ g
unfolding head_on
written_gate slot g old new w =
    let here : start_of slot + 0 ≡ start_of slot = omega arith in
    ap (λ (j : ℕ). get_or new j 0) (sym here) ∙ sym (get_or-part (start_of slot) 1 0 new (omega arith)) ∙ ap (λ (l : List ℕ). get_or l 0 0) w.inside

pub written_mark : (old new : Image) → IsWritten 0 (to_be_bytes w64 MARK) old new → mark_on new ≡ MARK
unfolding mark_on
written_mark old new w = ap (from_be_bytes w64) w.inside ∙ from_be_bytes-to_be_bytes_8 MARK (omega arith)

module _ (slot : Slot) (sequence long : ℕ) (old new : Image) (w : IsWritten (start_of slot + 4096) (numbers_of sequence long) old new) where
  field : (i m : ℕ) → i + m ≤ 12 → part (start_of slot + 4096 + i) m new ≡ part i m (numbers_of sequence long)
  field i m le = sym (part-part (start_of slot + 4096) 12 i m new le) ∙ ap (λ (l : List ℕ). part i m l) w.inside

  pub written_sequence : sequence < 2 ^ 64 → (head_on slot new).sequence ≡ sequence
  unfolding head_on
  written_sequence small =
      let here : start_of slot + 4096 + 0 ≡ start_of slot + 4096 = omega arith in
      let bytes : part (start_of slot + 4096) 8 new ≡ to_be_bytes w64 sequence = ap (λ (j : ℕ). part j 8 new) (sym here) ∙ field 0 8 (omega arith) in
      ap (from_be_bytes w64) bytes ∙ from_be_bytes-to_be_bytes_8 sequence small

  pub written_length : long < 2 ^ 32 → (head_on slot new).length ≡ long
  unfolding head_on
  written_length small =
      let here : start_of slot + 4096 + 8 ≡ start_of slot + 4104 = omega arith in
      let bytes : part (start_of slot + 4104) 4 new ≡ to_be_bytes w32 long = ap (λ (j : ℕ). part j 4 new) (sym here) ∙ field 8 4 (omega arith) in
      ap (from_be_bytes w32) bytes ∙ from_be_bytes-to_be_bytes_4 long small

pub written_body : (slot : Slot) (body : List ℕ) (old new : Image) → IsWritten (start_of slot + 4108) body old new → (head_on slot new).length ≡ length body → body_of slot new ≡ body
unfolding body_of
written_body slot body old new w long = ap (λ (m : ℕ). part (start_of slot + 4108) m new) long ∙ w.inside

-- ---- what counts

-- what a slot that counts has
pub record IsCounted (head : Head) : Type 0 where
  pub gate : head.gate ≡ OPEN
  pub first : 1 ≤ head.sequence
  pub last : head.sequence ≤ MAX_SEQUENCE
  pub fits : head.length ≤ MAX_RECORD_LEN

all_four : (a b c d : Bool) → (a && b && c && d) ≡ true → (a ≡ true) × (b ≡ true) × (c ≡ true) × (d ≡ true)
all_four true true true true is = (refl, refl, refl, refl)
all_four true true true false is = absurd cc
all_four true true false d is = absurd cc
all_four true false c d is = absurd cc
all_four false b c d is = absurd cc

pub counted : (head : Head) → counts head ≡ true → IsCounted head
unfolding counts
counted head is =
    let tests = all_four (eqb head.gate OPEN) (leb 1 head.sequence) (leb head.sequence MAX_SEQUENCE) (leb head.length MAX_RECORD_LEN) is in
    let t0 = tests.0 in
    let t1 = tests.1 in
    let t2 = tests.2 in
    let t3 = tests.3 in
    record { gate = grind (arith, nat_tests); first = grind (arith, nat_tests); last = grind (arith, nat_tests); fits = grind (arith, nat_tests) }

pub counts_open : (head : Head) → head.gate ≡ OPEN → 1 ≤ head.sequence → head.sequence ≤ MAX_SEQUENCE → head.length ≤ MAX_RECORD_LEN → counts head ≡ true
unfolding counts
counts_open head gate first last fits = grind (arith, nat_tests)

counts_shut : (head : Head) → head.gate ≢ OPEN → counts head ≡ false
unfolding counts
counts_shut head shut = grind (arith, nat_tests)

-- ---- which slot has the record

-- the slot has the record
pub record IsHolder (slot : Slot) (image : Image) : Type 0 where
  pub mark : mark_on image ≡ MARK
  pub counted : counts (head_on slot image) ≡ true
  pub shut : (head_on (after slot) image).gate ≢ OPEN

eqb_shut : (a b : ℕ) → a ≢ b → eqb a b ≡ false
eqb_shut a b differ = grind (arith, nat_tests)

eqb_same : (a b : ℕ) → a ≡ b → eqb a b ≡ true
eqb_same a b same = grind (arith, nat_tests)

both_true : (a b : Bool) → (a && not b) ≡ true → (a ≡ true) × (b ≡ false)
both_true true true is = absurd cc
both_true true false is = (refl, refl)
both_true false b is = absurd cc

has_both : (own next : Head) → has_record own next ≡ true → (counts own ≡ true) × (next.gate ≢ OPEN)
has_both own next is =
    let t = both_true (counts own) (eqb next.gate OPEN) is in
    (t.0, λ e. let both = sym t.1 ∙ eqb_same next.gate OPEN e in absurd cc)

has_it : (own next : Head) → counts own ≡ true → next.gate ≢ OPEN → has_record own next ≡ true
has_it own next is shut = λ i. is i && not (eqb_shut next.gate OPEN shut i)

both_false : (b : Bool) → (b && false) ≡ false
both_false true = refl
both_false false = refl

has_none_open : (own next : Head) → next.gate ≡ OPEN → has_record own next ≡ false
has_none_open own next is_open = ap (λ (b : Bool). counts own && not b) (eqb_same next.gate OPEN is_open) ∙ both_false (counts own)

has_none_shut : (own next : Head) → own.gate ≢ OPEN → has_record own next ≡ false
has_none_shut own next shut = ap (λ (b : Bool). b && not (eqb next.gate OPEN)) (counts_shut own shut)

picked_first : (p x y z : Bool) → cond p (cond x (Some First) (cond y (Some Second) (cond z (Some Third) None))) None ≡ Some First → (p ≡ true) × (x ≡ true)
picked_first true true y z is = (refl, refl)
picked_first true false true z is = absurd cc
picked_first true false false true is = absurd cc
picked_first true false false false is = absurd cc
picked_first false x y z is = absurd cc

picked_second : (p x y z : Bool) → cond p (cond x (Some First) (cond y (Some Second) (cond z (Some Third) None))) None ≡ Some Second → (p ≡ true) × (y ≡ true)
picked_second true true y z is = absurd cc
picked_second true false true z is = (refl, refl)
picked_second true false false true is = absurd cc
picked_second true false false false is = absurd cc
picked_second false x y z is = absurd cc

picked_third : (p x y z : Bool) → cond p (cond x (Some First) (cond y (Some Second) (cond z (Some Third) None))) None ≡ Some Third → (p ≡ true) × (z ≡ true)
picked_third true true y z is = absurd cc
picked_third true false true z is = absurd cc
picked_third true false false true is = (refl, refl)
picked_third true false false false is = absurd cc
picked_third false x y z is = absurd cc

module _ (image : Image) where
  abbrev a : Head
  a = head_on First image

  abbrev b : Head
  b = head_on Second image

  abbrev c : Head
  c = head_on Third image

  abbrev marked : Bool
  marked = eqb (mark_on image) MARK

  of_both : (slot : Slot) → marked ≡ true → (counts (head_on slot image) ≡ true) × ((head_on (after slot) image).gate ≢ OPEN) → IsHolder slot image
  of_both slot m t = record { mark = eqb-true (mark_on image) MARK m; counted = t.0; shut = t.1 }

  pub holds : (slot : Slot) → holder_on image ≡ Some slot → IsHolder slot image
  unfolding holder
  holds First is = let t = picked_first marked (has_record a b) (has_record b c) (has_record c a) is in of_both First t.0 (has_both a b t.1)
  holds Second is = let t = picked_second marked (has_record a b) (has_record b c) (has_record c a) is in of_both Second t.0 (has_both b c t.1)
  holds Third is = let t = picked_third marked (has_record a b) (has_record b c) (has_record c a) is in of_both Third t.0 (has_both c a t.1)

  -- no other slot has it: the one before is followed by an open gate, and the one after is closed
  pub holder_there : (slot : Slot) → IsHolder slot image → holder_on image ≡ Some slot
  unfolding holder
  holder_there First h =
      let m = eqb_same (mark_on image) MARK h.mark in
      let x = has_it a b h.counted h.shut in
      λ i. cond (m i) (cond (x i) (Some First) (cond (has_record b c) (Some Second) (cond (has_record c a) (Some Third) None))) None
  holder_there Second h =
      let m = eqb_same (mark_on image) MARK h.mark in
      let x = has_none_open a b (counted b h.counted).gate in
      let y = has_it b c h.counted h.shut in
      λ i. cond (m i) (cond (x i) (Some First) (cond (y i) (Some Second) (cond (has_record c a) (Some Third) None))) None
  holder_there Third h =
      let m = eqb_same (mark_on image) MARK h.mark in
      let x = has_none_shut a b h.shut in
      let y = has_none_open b c (counted c h.counted).gate in
      let z = has_it c a h.counted h.shut in
      λ i. cond (m i) (cond (x i) (Some First) (cond (y i) (Some Second) (cond (z i) (Some Third) None))) None

pub found_there : (slot : Slot) (image : Image) → holder_on image ≡ Some slot → found_on image ≡ Some (body_of slot image)
found_there slot image is = ap (λ (h : Option Slot). option_map (λ (r : ℕ × List ℕ). r.1) (option_map (λ s. ((head_on s image).sequence, body_of s image)) h)) is

-- what has the record fits
pub holder_fits : (own : Slot) (image : Image) → holder_on image ≡ Some own → (head_on own image).length ≤ MAX_RECORD_LEN
holder_fits own image is = (counted (head_on own image) (holds image own is).counted).fits
