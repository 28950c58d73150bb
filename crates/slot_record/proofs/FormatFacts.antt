-- What formatting makes of a plate.
use Rattle.std.proofs.Common.{◌≡◌, ◌≢◌, ℕ, ◌≤◌, false, List, [], ◌∷◌, length, sym, ◌∙◌, ap, subst, arith}
use Rattle.stable_record.specs.declared.formats.TheConstants.{MAX_RECORD_LEN}
use Rattle.slot_record.specs.declared.slots.Slot.TheVariants.{First, Second}
use Rattle.slot_record.specs.declared.slots.TheConstants.{SLOT_LEN, OPEN}
use Rattle.slot_record.specs.declared.standing.Known.{Known}
use Rattle.slot_record.specs.declared.heads.Head.{Head}
use Rattle.slot_record.specs.Images.{Image, IsWritten}
use Rattle.slot_record.specs.Plates.{PlateState, IsPlate, Only}
use Rattle.slot_record.specs.Slots.{head_on, body_of, rank, entry_of}
use Rattle.slot_record.specs.Records.{IsSettled}
use Rattle.slot_record.specs.Formatting.{IsEmpty}
use Rattle.slot_record.proofs.SlotFacts.{head_before, head_behind, gate_sequence, gate_length, gate_body, written_gate, entry_sequence, entry_length, entry_body, length-entry_of, rank_closed, rank_open, holder_greater}

-- both gates are closed
pub emptied : (a b c : Image) (s : PlateState) → IsPlate s → IsWritten 0 (0 ∷ []) a b → IsWritten SLOT_LEN (0 ∷ []) b c → Only c s → IsEmpty s
emptied a b c s sound one two only =
    let seen : s.seen ≡ c = only s.seen sound.seen_may_be_left in
    let first : (head_on First c).gate ≡ 0 = ap (λ (h : Head). h.gate) (head_before SLOT_LEN 1 b c two.outside First (omega arith)) ∙ written_gate First 0 a b one in
    let second : (head_on Second c).gate ≡ 0 = written_gate Second 0 b c two in
    record {
      synced = subst (λ (i : Image). Only i s) (sym seen) only;
      first = λ e. omega (arith, first, ap (λ (i : Image). (head_on First i).gate) seen, e);
      second = λ e. omega (arith, second, ap (λ (i : Image). (head_on Second i).gate) seen, e);
    }

module _ (bytes entry : List ℕ) (r s t : PlateState) (empty : IsEmpty r) (fits : length bytes ≤ MAX_RECORD_LEN) (is : entry ≡ entry_of 1 bytes) (one : IsWritten 1 entry r.seen s.seen) (two : IsWritten 0 (1 ∷ []) s.seen t.seen) where
  written : IsWritten 1 (entry_of 1 bytes) r.seen s.seen
  written = subst (λ (l : List ℕ). IsWritten 1 l r.seen s.seen) is one

  sequence : (head_on First t.seen).sequence ≡ 1
  sequence = gate_sequence First s.seen t.seen two.outside ∙ entry_sequence First 1 bytes r.seen s.seen written (omega arith)

  pub laid_body : body_of First t.seen ≡ bytes
  laid_body = gate_body First s.seen t.seen two.outside ∙ entry_body First 1 bytes r.seen s.seen written (omega (arith, fits))

  shut : (head_on Second t.seen).gate ≢ OPEN
  shut e =
      let long = length-entry_of 1 bytes in
      let later : head_on Second t.seen ≡ head_on Second s.seen = head_behind 0 1 s.seen t.seen two.outside Second (omega arith) in
      let before : head_on Second s.seen ≡ head_on Second r.seen = head_behind 1 (length (entry_of 1 bytes)) r.seen s.seen written.outside Second (omega (arith, long, fits)) in
      empty.second (ap (λ (h : Head). h.gate) (sym (later ∙ before)) ∙ e)

  pub laid_out : Only t.seen t → let known : Known = record { own = First; sequence = 1; other_open = false } in IsSettled t known
  laid_out only =
      let gate : (head_on First t.seen).gate ≡ OPEN = written_gate First 1 s.seen t.seen two in
      let long : (head_on First t.seen).length ≡ length bytes = gate_length First s.seen t.seen two.outside ∙ entry_length First 1 bytes r.seen s.seen written (omega (arith, fits)) in
      let number = sequence in
      let own : rank (head_on First t.seen) ≡ (head_on First t.seen).sequence = rank_open (head_on First t.seen) gate (omega (arith, number)) (omega (arith, number)) (omega (arith, long, fits)) in
      let none : rank (head_on Second t.seen) ≡ 0 = rank_closed (head_on Second t.seen) shut in
      record {
        synced = only;
        holder = holder_greater First t.seen (omega (arith, own, none, number));
        sequence = sym number;
        gate = (λ no. absurd cc, λ e. absurd (shut e));
      }
