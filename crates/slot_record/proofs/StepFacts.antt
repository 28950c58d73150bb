-- What a crash leaves in each step of a keep.
use Rattle.std.proofs.Common.{◌≡◌, ◌≢◌, inl, inr, ℕ, ◌+◌, ◌<◌, ◌≤◌, true, List, [], ◌∷◌, length, Some, refl, sym, ◌∙◌, ap, subst, arith}
use Rattle.std.proofs.lemmas.Bool.{cases_eq}
use Rattle.stable_record.specs.declared.formats.TheConstants.{MAX_RECORD_LEN}
use Rattle.slot_record.specs.declared.slots.Slot.{Slot}
use Rattle.slot_record.specs.declared.slots.TheConstants.{OPEN, MAX_SEQUENCE}
use Rattle.slot_record.specs.declared.standing.Standing.TheVariants.{Failed, Either}
use Rattle.slot_record.specs.declared.standing.Known.{Known}
use Rattle.slot_record.specs.declared.heads.Head.{Head}
use Rattle.slot_record.specs.Images.{Image, DiffersWithin, IsWritten}
use Rattle.slot_record.specs.Plates.{PlateState, Only, LeavesOnly}
use Rattle.slot_record.specs.Slots.{start_of, other_of, head_on, body_of, rank, holder_on, found_on, entry_of}
use Rattle.slot_record.specs.Records.{FindsAmong, IsSettled, bodies_on}
use Rattle.slot_record.specs.Keeping.{IsClosed, IsWaiting, Stays, next_of}
use Rattle.slot_record.proofs.SlotFacts.{SameSlot, elsewhere, gate_sequence, gate_length, gate_body, written_gate, entry_gate, length-entry_of, entry_sequence, entry_length, entry_body, counted, rank_closed, rank_open, rank_same, holds, holder_greater, holder_less, holder_stays, found_there, other_other}
use Rattle.slot_record.specs.Moments.{weakened}

-- the slot is the same, and still has the record
pub record StillHolds (own : Slot) (old new : Image) : Type 0 where
  pub holder : holder_on new ≡ Some own
  pub same : SameSlot own old new

-- opening finds its body
still_found : (own : Slot) (old new : Image) → StillHolds own old new → found_on new ≡ Some (body_of own old)
still_found own old new h = found_there own new h.holder ∙ ap (λ (b : List ℕ). Some b) h.same.body

-- a slot's rank where its head is the same
same_rank : (own : Slot) (old new : Image) → SameSlot own old new → rank (head_on own new) ≡ rank (head_on own old)
same_rank own old new s = ap rank s.head

-- what has the record fits
pub holder_fits : (own : Slot) (image : Image) → holder_on image ≡ Some own → (head_on own image).length ≤ MAX_RECORD_LEN
holder_fits own image is = (counted (head_on own image) (holds own image is).some).fits

-- where the other slot does not count
alone : (own : Slot) (old new : Image) → holder_on old ≡ Some own → SameSlot own old new → (head_on (other_of own) new).gate ≢ OPEN → StillHolds own old new
alone own old new is same shut =
    let none : rank (head_on (other_of own) new) ≡ 0 = rank_closed (head_on (other_of own) new) shut in
    record { holder = holder_greater own new (omega (arith, none, same_rank own old new same, (holds own old is).some)); same = same }

-- the steps that leave the record alone
pub only_own : (own : Slot) (old new : PlateState) (Q : Image → Type 0) → LeavesOnly old new Q → ((c : Image) → Q c → StillHolds own old.seen c) → Stays Failed own old new
only_own own old new Q m all = record {
  moments = weakened old new Q (FindsAmong (bodies_on Failed own old.seen)) m (λ c q. (body_of own old.seen, still_found own old.seen c (all c q), inl refl));
  same = λ c left. ap (λ (b : List ℕ). b ∷ []) (all c (m.now c left)).same.body;
}

-- ---- closing the other slot's gate

module _ (own : Slot) (at : ℕ) (old c : Image) (there : at ≡ start_of (other_of own)) (d : DiffersWithin at 1 old c) where
  gate_differs : DiffersWithin (start_of (other_of own)) 1 old c
  gate_differs = subst (λ (j : ℕ). DiffersWithin j 1 old c) there d

  pub gate_elsewhere : (head_on own old).length ≤ MAX_RECORD_LEN → SameSlot own old c
  gate_elsewhere fits = elsewhere (start_of (other_of own)) 1 old c gate_differs own (omega arith) (omega arith) fits

  pub closing : holder_on old ≡ Some own → (head_on (other_of own) old).gate ≡ OPEN → StillHolds own old c
  closing is was_open =
      let same = gate_elsewhere (holder_fits own old is) in
      let x = other_of own in
      elim (cases_eq (head_on x c).gate OPEN) [
        | inl is_open ↦ record {
          holder = holder_stays own old c (same_rank own old c same)
              (rank_same (head_on x c) (head_on x old) (is_open ∙ sym was_open) (gate_sequence x old c gate_differs) (gate_length x old c gate_differs)) ∙ is;
          same = same;
        }
        | inr shut ↦ alone own old c is same shut
      ]

module _ (known : Known) (at : ℕ) (old new : PlateState) (there : at ≡ start_of (other_of known.own)) (settled : IsSettled old known) (is_open : known.other_open ≡ true) (m : LeavesOnly old new (DiffersWithin at 1 old.seen)) where
  was_open : (head_on (other_of known.own) old.seen).gate ≡ OPEN
  was_open = settled.gate.0 is_open

  closes : (c : Image) → DiffersWithin at 1 old.seen c → StillHolds known.own old.seen c
  closes c d = closing known.own at old.seen c there d settled.holder was_open

  pub closing_stays : Stays Failed known.own old new
  closing_stays = only_own known.own old new (DiffersWithin at 1 old.seen) m closes

  pub closing_done : IsWritten at (0 ∷ []) old.seen new.seen → Only new.seen new → IsClosed new known.own known.sequence
  closing_done w only =
      let h = closes new.seen w.outside in
      let there_written : IsWritten (start_of (other_of known.own)) (0 ∷ []) old.seen new.seen = subst (λ (j : ℕ). IsWritten j (0 ∷ []) old.seen new.seen) there w in
      let shut : (head_on (other_of known.own) new.seen).gate ≡ 0 = written_gate (other_of known.own) 0 old.seen new.seen there_written in
      record {
        synced = only;
        holder = h.holder;
        number = settled.sequence ∙ ap (λ (head : Head). head.sequence) (sym h.same.head);
        gate = λ e. omega (arith, shut, e);
      }

-- a record that is settled stays where it is
pub settled_holds : (known : Known) (s : PlateState) → IsSettled s known → (c : Image) → s.may_leave c → StillHolds known.own s.seen c
settled_holds known s settled c left =
    let is = settled.synced c left in
    record {
      holder = ap holder_on is ∙ settled.holder;
      same = record { head = ap (head_on known.own) is; body = ap (body_of known.own) is };
    }

-- ---- writing behind the other slot's gate

module _ (own : Slot) (sequence at n : ℕ) (old : PlateState) (there : at ≡ start_of (other_of own) + 1) (room : n ≤ 60012) (closed : IsClosed old own sequence) where
  writes : (c : Image) → DiffersWithin at n old.seen c → StillHolds own old.seen c
  writes c d =
      let there_differs : DiffersWithin (start_of (other_of own) + 1) n old.seen c = subst (λ (j : ℕ). DiffersWithin j n old.seen c) there d in
      let same = elsewhere (start_of (other_of own) + 1) n old.seen c there_differs own (omega arith) (omega arith) (holder_fits own old.seen closed.holder) in
      alone own old.seen c closed.holder same (λ e. closed.gate (sym (entry_gate (other_of own) n old.seen c there_differs) ∙ e))

  still_closed : (c : Image) → DiffersWithin at n old.seen c → (head_on (other_of own) c).gate ≢ OPEN
  still_closed c d e =
      let there_differs : DiffersWithin (start_of (other_of own) + 1) n old.seen c = subst (λ (j : ℕ). DiffersWithin j n old.seen c) there d in
      closed.gate (sym (entry_gate (other_of own) n old.seen c there_differs) ∙ e)

  pub writing_stays : (new : PlateState) → LeavesOnly old new (DiffersWithin at n old.seen) → Stays Failed own old new
  writing_stays new m = only_own own old new (DiffersWithin at n old.seen) m writes

pub writing_done : (own : Slot) (sequence at : ℕ) (body : List ℕ) (old new : PlateState) → at ≡ start_of (other_of own) + 1 → sequence < MAX_SEQUENCE → length body ≤ MAX_RECORD_LEN → IsClosed old own sequence
    → IsWritten at (entry_of (sequence + 1) body) old.seen new.seen → Only new.seen new → IsWaiting new own sequence body
writing_done own sequence at body old new there next fits closed w only =
    let n = length (entry_of (sequence + 1) body) in
    let room : n ≤ 60012 = omega (arith, length-entry_of (sequence + 1) body) in
    let h = writes own sequence at n old there room closed new.seen w.outside in
    let x = other_of own in
    let there_written : IsWritten (start_of x + 1) (entry_of (sequence + 1) body) old.seen new.seen = subst (λ (j : ℕ). IsWritten j (entry_of (sequence + 1) body) old.seen new.seen) there w in
    record {
      closed = record {
        synced = only;
        holder = h.holder;
        number = closed.number ∙ ap (λ (head : Head). head.sequence) (sym h.same.head);
        gate = still_closed own sequence at n old there room closed new.seen w.outside;
      };
      next = entry_sequence x (sequence + 1) body old.seen new.seen there_written (omega arith);
      length = entry_length x (sequence + 1) body old.seen new.seen there_written (omega arith);
      behind = entry_body x (sequence + 1) body old.seen new.seen there_written (omega arith);
    }

-- ---- opening the other slot's gate

module _ (known : Known) (at : ℕ) (body : List ℕ) (old : PlateState) (there : at ≡ start_of (other_of known.own)) (next : known.sequence < MAX_SEQUENCE) (fits : length body ≤ MAX_RECORD_LEN) (waiting : IsWaiting old known.own known.sequence body) where
  abbrev own : Slot
  own = known.own

  abbrev x : Slot
  x = other_of known.own

  module _ (c : Image) (d : DiffersWithin at 1 old.seen c) where
    same_own : SameSlot own old.seen c
    same_own = gate_elsewhere own at old.seen c there d (holder_fits own old.seen waiting.closed.holder)

    x_differs : DiffersWithin (start_of x) 1 old.seen c
    x_differs = subst (λ (j : ℕ). DiffersWithin j 1 old.seen c) there d

    x_body : body_of x c ≡ body_of x old.seen
    x_body = gate_body x old.seen c x_differs

    own_rank : rank (head_on own c) ≡ known.sequence
    own_rank =
        same_rank own old.seen c same_own
        ∙ (counted (head_on own old.seen) (holds own old.seen waiting.closed.holder).some).rank ∙ sym waiting.closed.number

    opens : (head_on x c).gate ≡ OPEN → holder_on c ≡ Some x
    opens is_open =
        let s : (head_on x c).sequence ≡ known.sequence + 1 = gate_sequence x old.seen c x_differs ∙ waiting.next in
        let l : (head_on x c).length ≡ length body = gate_length x old.seen c x_differs ∙ waiting.length in
        let r : rank (head_on x c) ≡ (head_on x c).sequence = rank_open (head_on x c) is_open (omega (arith, s)) (omega (arith, s)) (omega (arith, l)) in
        holder_less own c (omega (arith, own_rank, r, s))

    finds_either : FindsAmong (bodies_on Either own old.seen) c
    finds_either = elim (cases_eq (head_on x c).gate OPEN) [
      | inl is_open ↦ (body_of x old.seen, found_there x c (opens is_open) ∙ ap (λ (b : List ℕ). Some b) x_body, inr (inl refl))
      | inr shut ↦ (body_of own old.seen, still_found own old.seen c (alone own old.seen c waiting.closed.holder same_own shut), inl refl)
    ]

  pub opening_stays : (new : PlateState) → LeavesOnly old new (DiffersWithin at 1 old.seen) → Stays Either own old new
  opening_stays new m = record {
    moments = weakened old new (DiffersWithin at 1 old.seen) (FindsAmong (bodies_on Either own old.seen)) m finds_either;
    same = λ c left. λ i. (same_own c (m.now c left)).body i ∷ x_body c (m.now c left) i ∷ [];
  }

  pub opening_done : (new : PlateState) → IsWritten at (1 ∷ []) old.seen new.seen → Only new.seen new → IsSettled new (next_of known)
  opening_done new w only =
      let x_written : IsWritten (start_of x) (1 ∷ []) old.seen new.seen = subst (λ (j : ℕ). IsWritten j (1 ∷ []) old.seen new.seen) there w in
      let is_open = written_gate x 1 old.seen new.seen x_written in
      let own_gate : (head_on own new.seen).gate ≡ OPEN =
      ap (λ (head : Head). head.gate) (same_own new.seen w.outside).head ∙ (counted (head_on own old.seen) (holds own old.seen waiting.closed.holder).some).gate in
      let back : (head_on (other_of x) new.seen).gate ≡ OPEN = subst (λ (s : Slot). (head_on s new.seen).gate ≡ OPEN) (sym (other_other own)) own_gate in
      record {
        synced = only;
        holder = opens new.seen w.outside is_open;
        sequence = sym (gate_sequence x old.seen new.seen (x_differs new.seen w.outside) ∙ waiting.next);
        gate = (λ _. back, λ _. refl);
      }
