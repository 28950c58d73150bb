-- What a write that a crash may tear leaves of the slots.
use Rattle.std.proofs.Common.{◌≡◌, ◌≢◌, ℕ, ◌+◌, ◌<◌, ◌≤◌, ◌^◌, Bool, true, false, cond, ◌&&◌, eqb, leb, ltb, List, [], ◌∷◌, ◌++◌, length, get_or, Option, Some, None, refl, sym, ◌∙◌, ap, arith, length-append}
use Rattle.std.specs.Option.{option_map}
use Rattle.std.proofs.lemmas.Bool.Decides.{nat_tests}
use Rattle.std.proofs.lemmas.List.{take_all}
use Rattle.std.proofs.lemmas.Nat.{from_be_bytes-to_be_bytes_4, from_be_bytes-to_be_bytes_8}
use Rattle.std.specs.Int.{w32, w64, to_be_bytes, from_be_bytes}
use Rattle.stable_record.specs.declared.formats.TheConstants.{MAX_RECORD_LEN}
use Rattle.slot_record.specs.declared.slots.Slot.{Slot}
use Rattle.slot_record.specs.declared.slots.Slot.TheVariants.{First, Second}
use Rattle.slot_record.specs.declared.slots.TheConstants.{SLOT_LEN, OPEN, MAX_SEQUENCE}
use Rattle.slot_record.specs.declared.heads.Head.{Head}
use Rattle.slot_record.specs.Images.{Image, part, DiffersWithin, IsWritten}
use Rattle.slot_record.specs.Slots.{start_of, other_of, head_on, body_of, rank, holder, holder_on, found_on, entry_of}
use Rattle.slot_record.specs.ImageLaws.{part_before, part_behind, index_before, index_behind, part-part, get_or-part}

-- a slot is the same in two images
pub record SameSlot (slot : Slot) (old new : Image) : Type 0 where
  pub head : head_on slot new ≡ head_on slot old
  pub body : body_of slot new ≡ body_of slot old

pub heads_same : (g g' s s' l l' : ℕ) → g ≡ g' → s ≡ s' → l ≡ l' → let a : Head = record { gate = g; sequence = s; length = l } in let b : Head = record { gate = g'; sequence = s'; length = l' } in a ≡ b
heads_same g g' s s' l l' p q r = λ i. record { gate = p i; sequence = q i; length = r i }

module _ (at n : ℕ) (old new : Image) (d : DiffersWithin at n old new) where
  pub head_before : (slot : Slot) → start_of slot + 13 ≤ at → head_on slot new ≡ head_on slot old
  unfolding head_on
  head_before slot le = heads_same _ _ _ _ _ _
      (index_before at n old new d (start_of slot) (omega arith))
      (ap (from_be_bytes w64) (part_before at n old new d (start_of slot + 1) 8 (omega arith)))
      (ap (from_be_bytes w32) (part_before at n old new d (start_of slot + 9) 4 (omega arith)))

  pub head_behind : (slot : Slot) → at + n ≤ start_of slot → head_on slot new ≡ head_on slot old
  unfolding head_on
  head_behind slot le = heads_same _ _ _ _ _ _
      (index_behind at n old new d (start_of slot) le)
      (ap (from_be_bytes w64) (part_behind at n old new d (start_of slot + 1) 8 (omega arith)))
      (ap (from_be_bytes w32) (part_behind at n old new d (start_of slot + 9) 4 (omega arith)))

  body_before : (slot : Slot) → (head_on slot new).length ≡ (head_on slot old).length → start_of slot + 13 + (head_on slot old).length ≤ at → body_of slot new ≡ body_of slot old
  unfolding body_of
  body_before slot same le =
      ap (λ (m : ℕ). part (start_of slot + 13) m new) same ∙ part_before at n old new d (start_of slot + 13) (head_on slot old).length le

  body_behind : (slot : Slot) → (head_on slot new).length ≡ (head_on slot old).length → at + n ≤ start_of slot + 13 → body_of slot new ≡ body_of slot old
  unfolding body_of
  body_behind slot same le =
      ap (λ (m : ℕ). part (start_of slot + 13) m new) same ∙ part_behind at n old new d (start_of slot + 13) (head_on slot old).length le

  -- what is torn in one slot leaves the other one
  pub elsewhere : (slot : Slot) → start_of (other_of slot) ≤ at → at + n ≤ start_of (other_of slot) + SLOT_LEN → (head_on slot old).length ≤ MAX_RECORD_LEN → SameSlot slot old new
  elsewhere First low high fits =
      let same = head_before First (omega arith) in
      record { head = same; body = body_before First (ap (λ (h : Head). h.length) same) (omega arith) }
  elsewhere Second low high fits =
      let same = head_behind Second (omega arith) in
      record { head = same; body = body_behind Second (ap (λ (h : Head). h.length) same) (omega arith) }

-- ---- a gate

module _ (slot : Slot) (old new : Image) (d : DiffersWithin (start_of slot) 1 old new) where
  pub gate_sequence : (head_on slot new).sequence ≡ (head_on slot old).sequence
  unfolding head_on
  gate_sequence = ap (from_be_bytes w64) (part_behind (start_of slot) 1 old new d (start_of slot + 1) 8 (omega arith))

  pub gate_length : (head_on slot new).length ≡ (head_on slot old).length
  unfolding head_on
  gate_length = ap (from_be_bytes w32) (part_behind (start_of slot) 1 old new d (start_of slot + 9) 4 (omega arith))

  pub gate_body : body_of slot new ≡ body_of slot old
  gate_body = body_behind (start_of slot) 1 old new d slot gate_length (omega arith)

pub written_gate : (slot : Slot) (g : ℕ) (old new : Image) → IsWritten (start_of slot) (g ∷ []) old new → (head_on slot new).gate ≡ g
unfolding head_on
written_gate slot g old new w =
    let here : start_of slot + 0 ≡ start_of slot = omega arith in
    ap (λ (j : ℕ). get_or new j 0) (sym here) ∙ sym (get_or-part (start_of slot) 1 0 new (omega arith)) ∙ ap (λ (l : List ℕ). get_or l 0 0) w.inside

-- ---- what stands behind a gate

pub entry_gate : (slot : Slot) (n : ℕ) (old new : Image) → DiffersWithin (start_of slot + 1) n old new → (head_on slot new).gate ≡ (head_on slot old).gate
unfolding head_on
entry_gate slot n old new d = index_before (start_of slot + 1) n old new d (start_of slot) (omega arith)

pub length-entry_of : (sequence : ℕ) (body : List ℕ) → length (entry_of sequence body) ≡ 12 + length body
length-entry_of sequence body =
    let a = to_be_bytes w64 sequence in
    let b = to_be_bytes w32 (length body) in
    let la : length a ≡ 8 = refl in
    let lb : length b ≡ 4 = refl in
    omega (arith, length-append (a ++ b) body, length-append a b, la, lb)

module _ (slot : Slot) (sequence : ℕ) (body : List ℕ) (old new : Image) (w : IsWritten (start_of slot + 1) (entry_of sequence body) old new) where
  field : (i m : ℕ) → i + m ≤ 12 + length body → part (start_of slot + 1 + i) m new ≡ part i m (entry_of sequence body)
  field i m le =
      sym (part-part (start_of slot + 1) (length (entry_of sequence body)) i m new (omega (arith, length-entry_of sequence body)))
      ∙ ap (λ (l : List ℕ). part i m l) w.inside

  pub entry_sequence : sequence < 2 ^ 64 → (head_on slot new).sequence ≡ sequence
  unfolding head_on
  entry_sequence small =
      let here : start_of slot + 1 + 0 ≡ start_of slot + 1 = omega arith in
      let bytes : part (start_of slot + 1) 8 new ≡ to_be_bytes w64 sequence = ap (λ (j : ℕ). part j 8 new) (sym here) ∙ field 0 8 (omega arith) in
      ap (from_be_bytes w64) bytes ∙ from_be_bytes-to_be_bytes_8 sequence small

  pub entry_length : length body < 2 ^ 32 → (head_on slot new).length ≡ length body
  unfolding head_on
  entry_length small =
      let here : start_of slot + 1 + 8 ≡ start_of slot + 9 = omega arith in
      let bytes : part (start_of slot + 9) 4 new ≡ to_be_bytes w32 (length body) = ap (λ (j : ℕ). part j 4 new) (sym here) ∙ field 8 4 (omega arith) in
      ap (from_be_bytes w32) bytes ∙ from_be_bytes-to_be_bytes_4 (length body) small

  pub entry_body : length body < 2 ^ 32 → body_of slot new ≡ body
  unfolding body_of
  entry_body small =
      let here : start_of slot + 1 + 12 ≡ start_of slot + 13 = omega arith in
      let long = entry_length small in
      ap (λ (m : ℕ). part (start_of slot + 13) m new) long
      ∙ ap (λ (j : ℕ). part j (length body) new) (sym here) ∙ field 12 (length body) (omega arith)
      ∙ take_all (length body) body (omega arith)

-- ---- ranks

-- what a slot that counts has
pub record IsCounted (head : Head) : Type 0 where
  pub gate : head.gate ≡ OPEN
  pub first : 1 ≤ head.sequence
  pub last : head.sequence ≤ MAX_SEQUENCE
  pub fits : head.length ≤ MAX_RECORD_LEN
  pub rank : rank head ≡ head.sequence

all_four : (a b c d : Bool) (n : ℕ) → 1 ≤ cond (a && b && c && d) n 0 → (a ≡ true) × (b ≡ true) × (c ≡ true) × (d ≡ true)
all_four true true true true n some = (refl, refl, refl, refl)
all_four true true true false n some = absurd (omega arith)
all_four true true false d n some = absurd (omega arith)
all_four true false c d n some = absurd (omega arith)
all_four false b c d n some = absurd (omega arith)

pub counted : (head : Head) → 1 ≤ rank head → IsCounted head
unfolding rank
counted head some =
    let tests = all_four (eqb head.gate OPEN) (leb 1 head.sequence) (leb head.sequence MAX_SEQUENCE) (leb head.length MAX_RECORD_LEN) head.sequence some in
    let t0 = tests.0 in
    let t1 = tests.1 in
    let t2 = tests.2 in
    let t3 = tests.3 in
    record {
      gate = grind (arith, nat_tests);
      first = grind (arith, nat_tests);
      last = grind (arith, nat_tests);
      fits = grind (arith, nat_tests);
      rank = rw (t0, t1, t2, t3);
    }

pub rank_closed : (head : Head) → head.gate ≢ OPEN → rank head ≡ 0
unfolding rank
rank_closed head shut = grind (arith, nat_tests)

pub rank_open : (head : Head) → head.gate ≡ OPEN → 1 ≤ head.sequence → head.sequence ≤ MAX_SEQUENCE → head.length ≤ MAX_RECORD_LEN → rank head ≡ head.sequence
unfolding rank
rank_open head gate first last fits = grind (arith, nat_tests)

pub rank_same : (a b : Head) → a.gate ≡ b.gate → a.sequence ≡ b.sequence → a.length ≡ b.length → rank a ≡ rank b
rank_same a b g s l = ap rank (heads_same a.gate b.gate a.sequence b.sequence a.length b.length g s l)

-- ---- holders

-- the slot has the record
pub record IsHolder (slot : Slot) (image : Image) : Type 0 where
  pub some : 1 ≤ rank (head_on slot image)
  pub most : rank (head_on (other_of slot) image) ≤ rank (head_on slot image)

picks_first : (p q : Bool) → cond p (Some Second) (cond q (Some First) None) ≡ Some First → (p ≡ false) × (q ≡ true)
picks_first true q is = absurd cc
picks_first false true is = (refl, refl)
picks_first false false is = absurd cc

picks_second : (p q : Bool) → cond p (Some Second) (cond q (Some First) None) ≡ Some Second → p ≡ true
picks_second true q is = refl
picks_second false true is = absurd cc
picks_second false false is = absurd cc

pub holds : (slot : Slot) (image : Image) → holder_on image ≡ Some slot → IsHolder slot image
holds First image is =
    let tests = picks_first (ltb (rank (head_on First image)) (rank (head_on Second image))) (ltb 0 (rank (head_on First image))) is in
    let p = tests.0 in
    let q = tests.1 in
    record { some = grind (arith, nat_tests); most = grind (arith, nat_tests) }
holds Second image is =
    let p = picks_second (ltb (rank (head_on First image)) (rank (head_on Second image))) (ltb 0 (rank (head_on First image))) is in
    record { some = grind (arith, nat_tests); most = grind (arith, nat_tests) }

pub holder_greater : (slot : Slot) (image : Image) → rank (head_on (other_of slot) image) < rank (head_on slot image) → holder_on image ≡ Some slot
holder_greater First image less = grind (arith, nat_tests)
holder_greater Second image less = grind (arith, nat_tests)

pub holder_less : (slot : Slot) (image : Image) → rank (head_on slot image) < rank (head_on (other_of slot) image) → holder_on image ≡ Some (other_of slot)
holder_less First image less = holder_greater Second image less
holder_less Second image less = holder_greater First image less

pub other_other : (slot : Slot) → other_of (other_of slot) ≡ slot
other_other First = refl
other_other Second = refl

pub holder_stays : (slot : Slot) (old new : Image) → rank (head_on slot new) ≡ rank (head_on slot old) → rank (head_on (other_of slot) new) ≡ rank (head_on (other_of slot) old) → holder_on new ≡ holder_on old
holder_stays First old new own other = λ i. holder (own i) (other i)
holder_stays Second old new own other = λ i. holder (other i) (own i)

pub found_there : (slot : Slot) (image : Image) → holder_on image ≡ Some slot → found_on image ≡ Some (body_of slot image)
found_there slot image is = ap (λ (h : Option Slot). option_map (λ (r : ℕ × List ℕ). r.1) (option_map (λ s. ((head_on s image).sequence, body_of s image)) h)) is
