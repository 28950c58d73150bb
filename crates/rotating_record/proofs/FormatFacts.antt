-- What formatting makes of a plate.
use Rattle.std.proofs.Common.{◌≡◌, ◌≢◌, inl, inr, ℕ, ◌≤◌, List, [], ◌∷◌, length, sym, ◌∙◌, ap, subst, arith}
use Rattle.std.specs.Int.{w64, to_be_bytes}
use Rattle.stable_record.specs.declared.formats.TheConstants.{MAX_RECORD_LEN}
use Rattle.slot_record.specs.declared.slots.TheConstants.{OPEN}
use Rattle.slot_record.specs.Images.{Image, IsWritten}
use Rattle.slot_record.specs.Plates.{PlateState, IsPlate, Only}
use Rattle.rotating_record.specs.declared.slots.Slot.{Slot}
use Rattle.rotating_record.specs.declared.slots.Slot.TheVariants.{First, Second, Third}
use Rattle.rotating_record.specs.declared.slots.TheConstants.{MARK}
use Rattle.rotating_record.specs.declared.standing.Known.{Known}
use Rattle.rotating_record.specs.Slots.{mark_on, head_on, body_of, numbers_of}
use Rattle.rotating_record.specs.Records.{IsSettled}
use Rattle.rotating_record.specs.Formatting.{IsEmpty}
use Rattle.rotating_record.proofs.SlotFacts.{mark_apart, gate_apart, sequence_apart, length_apart, body_apart, written_mark, written_gate, written_sequence, written_length, written_body, counts_open, holder_there}

all_shut : (s : PlateState) (e : Image) → s.seen ≡ e → (head_on First e).gate ≡ 0 → (head_on Second e).gate ≡ 0 → (head_on Third e).gate ≡ 0 → (slot : Slot) → (head_on slot s.seen).gate ≢ OPEN
all_shut s e seen one two three First is_open = omega (arith, one, ap (λ (i : Image). (head_on First i).gate) seen, is_open)
all_shut s e seen one two three Second is_open = omega (arith, two, ap (λ (i : Image). (head_on Second i).gate) seen, is_open)
all_shut s e seen one two three Third is_open = omega (arith, three, ap (λ (i : Image). (head_on Third i).gate) seen, is_open)

-- the mark is written and the three gates are closed
pub emptied : (a b c d e : Image) (s : PlateState) → IsPlate s → IsWritten 0 (to_be_bytes w64 MARK) a b → IsWritten 4096 (0 ∷ []) b c → IsWritten 69632 (0 ∷ []) c d → IsWritten 135168 (0 ∷ []) d e → Only e s → IsEmpty s
emptied a b c d e s sound mark one two three only =
    let seen : s.seen ≡ e = only s.seen sound.seen_may_be_left in
    let marked : mark_on e ≡ MARK =
    mark_apart 135168 1 d e three.outside (omega arith) ∙ mark_apart 69632 1 c d two.outside (omega arith) ∙ mark_apart 4096 1 b c one.outside (omega arith) ∙ written_mark a b mark in
    let first : (head_on First e).gate ≡ 0 =
    gate_apart 135168 1 d e three.outside First (inl (omega arith)) ∙ gate_apart 69632 1 c d two.outside First (inl (omega arith)) ∙ written_gate First 0 b c one in
    let second : (head_on Second e).gate ≡ 0 = gate_apart 135168 1 d e three.outside Second (inl (omega arith)) ∙ written_gate Second 0 c d two in
    let third : (head_on Third e).gate ≡ 0 = written_gate Third 0 d e three in
    record {
      synced = subst (λ (i : Image). Only i s) (sym seen) only;
      mark = ap mark_on seen ∙ marked;
      shut = all_shut s e seen first second third;
    }

module _ (bytes : List ℕ) (r s t : PlateState) (a b : Image) (empty : IsEmpty r) (sound : IsPlate s) (fits : length bytes ≤ MAX_RECORD_LEN)
    (one : IsWritten 8192 (numbers_of 1 (length bytes)) r.seen a) (two : IsWritten 8204 bytes a b) (only : Only b s) (three : IsWritten 4096 (1 ∷ []) s.seen t.seen) where
  seen : s.seen ≡ b
  seen = only s.seen sound.seen_may_be_left

  opened : IsWritten 4096 (1 ∷ []) b t.seen
  opened = subst (λ (i : Image). IsWritten 4096 (1 ∷ []) i t.seen) seen three

  long_b : (head_on First b).length ≡ length bytes
  long_b = length_apart 8204 (length bytes) a b two.outside First (inl (omega arith)) ∙ written_length First 1 (length bytes) r.seen a one (omega (arith, fits))

  long : (head_on First t.seen).length ≡ length bytes
  long = length_apart 4096 1 b t.seen opened.outside First (inr (omega arith)) ∙ long_b

  sequence : (head_on First t.seen).sequence ≡ 1
  sequence =
      sequence_apart 4096 1 b t.seen opened.outside First (inr (omega arith))
      ∙ sequence_apart 8204 (length bytes) a b two.outside First (inl (omega arith))
      ∙ written_sequence First 1 (length bytes) r.seen a one (omega arith)

  pub laid_body : body_of First t.seen ≡ bytes
  laid_body =
      body_apart 4096 1 b t.seen opened.outside First (length_apart 4096 1 b t.seen opened.outside First (inr (omega arith))) (inr (omega arith))
      ∙ written_body First bytes a b two long_b

  shut : (head_on Second t.seen).gate ≢ OPEN
  shut e = empty.shut Second (sym (
      gate_apart 4096 1 b t.seen opened.outside Second (inr (omega arith))
      ∙ gate_apart 8204 (length bytes) a b two.outside Second (inr (omega (arith, fits)))
      ∙ gate_apart 8192 12 r.seen a one.outside Second (inr (omega arith))) ∙ e)

  marked : mark_on t.seen ≡ MARK
  marked =
      mark_apart 4096 1 b t.seen opened.outside (omega arith) ∙ mark_apart 8204 (length bytes) a b two.outside (omega arith)
      ∙ mark_apart 8192 12 r.seen a one.outside (omega arith) ∙ empty.mark

  pub laid_out : Only t.seen t → let known : Known = record { own = First; sequence = 1 } in IsSettled t known
  laid_out synced =
      let number = sequence in
      let many = long in
      record {
        synced = synced;
        holder = holder_there t.seen First (record {
          mark = marked;
          counted = counts_open (head_on First t.seen) (written_gate First 1 b t.seen opened) (omega (arith, number)) (omega (arith, number)) (omega (arith, many, fits));
          shut = shut;
        });
        sequence = sym number;
      }
