-- What a crash leaves in each step of a keep.
use Rattle.std.proofs.Common.{◌≡◌, ◌≢◌, inl, inr, ℕ, ◌+◌, ◌<◌, ◌≤◌, List, [], ◌∷◌, length, Some, refl, sym, ◌∙◌, ap, subst, arith}
use Rattle.std.proofs.lemmas.Bool.{cases_eq}
use Rattle.stable_record.specs.declared.formats.TheConstants.{MAX_RECORD_LEN}
use Rattle.slot_record.specs.declared.slots.TheConstants.{OPEN, MAX_SEQUENCE}
use Rattle.slot_record.specs.Images.{Image, DiffersWithin, IsWritten}
use Rattle.slot_record.specs.Plates.{PlateState, IsPlate, Only, LeavesOnly, Tears, NothingNew, GoesOn}
use Rattle.rotating_record.specs.declared.slots.Slot.{Slot}
use Rattle.rotating_record.specs.declared.slots.Slot.TheVariants.{First, Second, Third}
use Rattle.slot_record.specs.declared.standing.Standing.TheVariants.{Failed, Either}
use Rattle.rotating_record.specs.declared.standing.Known.{Known}
use Rattle.rotating_record.specs.declared.heads.Head.{Head}
use Rattle.rotating_record.specs.Slots.{start_of, after, mark_on, head_on, body_of, counts, holder_on, found_on, numbers_of}
use Rattle.rotating_record.specs.Records.{FindsAmong, IsSettled, bodies_on}
use Rattle.rotating_record.specs.Keeping.{IsWaiting, Stays, next_of}
use Rattle.rotating_record.proofs.SlotFacts.{SameSlot, Apart, mark_apart, gate_apart, sequence_apart, length_apart, body_apart, slot_apart, written_gate, written_sequence, written_length, written_body, counts_open, holds, holder_there, found_there, holder_fits}
use Rattle.slot_record.specs.Moments.{rests, weakened, torn_on, went_on}

-- the record's slot, the mark, and the gate that makes it the record's are the same
pub record IsUntouched (own : Slot) (old new : Image) : Type 0 where
  pub mark : mark_on new ≡ mark_on old
  pub same : SameSlot own old new
  pub gate : (head_on (after own) new).gate ≡ (head_on (after own) old).gate

untouched_yet : (own : Slot) (image : Image) → IsUntouched own image image
untouched_yet own image = record { mark = refl; same = record { head = refl; body = refl }; gate = refl }

-- then it still has the record
still_holds : (own : Slot) (old new : Image) → holder_on old ≡ Some own → IsUntouched own old new → holder_on new ≡ Some own
still_holds own old new is u =
    let h = holds old own is in
    holder_there new own (record { mark = u.mark ∙ h.mark; counted = ap counts u.same.head ∙ h.counted; shut = λ e. h.shut (sym u.gate ∙ e) })

still_found : (own : Slot) (old new : Image) → holder_on old ≡ Some own → IsUntouched own old new → found_on new ≡ Some (body_of own old)
still_found own old new is u = found_there own new (still_holds own old new is u) ∙ ap (λ (b : List ℕ). Some b) u.same.body

-- so the steps that leave it untouched leave the record alone
pub only_own : (own : Slot) (old new : PlateState) → holder_on old.seen ≡ Some own → LeavesOnly old new (IsUntouched own old.seen) → Stays Failed own old new
only_own own old new is m = record {
  moments = weakened old new (IsUntouched own old.seen) (FindsAmong (bodies_on Failed own old.seen)) m (λ c u. (body_of own old.seen, still_found own old.seen c is u, inl refl));
  same = λ c left. ap (λ (b : List ℕ). b ∷ []) (m.now c left).same.body;
}

-- ---- where the steps write

-- n bytes from a place on leave the mark, the record's slot and the next gate
pub record LeavesOwn (own : Slot) (at n : ℕ) : Type 0 where
  pub mark : 8 ≤ at
  pub slot : Apart at n (start_of own) 65536
  pub gate : Apart at n (start_of (after own)) 1

pub next_leaves : (own : Slot) (at n : ℕ) → start_of (after own) < at → at + n ≤ start_of (after own) + 65536 → LeavesOwn own at n
next_leaves First at n low high = record { mark = omega arith; slot = inl (omega arith); gate = inl (omega arith) }
next_leaves Second at n low high = record { mark = omega arith; slot = inl (omega arith); gate = inl (omega arith) }
next_leaves Third at n low high = record { mark = omega arith; slot = inr (omega arith); gate = inl (omega arith) }

pub third_leaves : (own : Slot) → LeavesOwn own (start_of (after (after own))) 1
third_leaves First = record { mark = omega arith; slot = inl (omega arith); gate = inl (omega arith) }
third_leaves Second = record { mark = omega arith; slot = inr (omega arith); gate = inr (omega arith) }
third_leaves Third = record { mark = omega arith; slot = inr (omega arith); gate = inl (omega arith) }

pub untouched_on : (own : Slot) (at n : ℕ) (old d c : Image) → LeavesOwn own at n → (head_on own old).length ≤ MAX_RECORD_LEN → IsUntouched own old d → DiffersWithin at n d c → IsUntouched own old c
untouched_on own at n old d c l fits u differs =
    let still : (head_on own d).length ≤ MAX_RECORD_LEN = omega (arith, fits, ap (λ (h : Head). h.length) u.same.head) in
    let s = slot_apart at n d c differs own l.slot still in
    record {
      mark = mark_apart at n d c differs l.mark ∙ u.mark;
      same = record { head = s.head ∙ u.same.head; body = s.body ∙ u.same.body };
      gate = gate_apart at n d c differs (after own) l.gate ∙ u.gate;
    }

-- ---- writing the next record and closing the third gate

module _ (own : Slot) (s : PlateState) (sound : IsPlate s) (only : Only s.seen s) (is : holder_on s.seen ≡ Some own) where
  abbrev Q : Image → Type 0
  Q = IsUntouched own s.seen

  pub begun : LeavesOnly s s Q
  begun = rests s Q sound (λ c left. subst (λ (i : Image). IsUntouched own s.seen i) (sym (only c left)) (untouched_yet own s.seen))

  pub torn_beside : (at n : ℕ) (q r : PlateState) → LeavesOwn own at n → LeavesOnly s q Q → GoesOn q r → Tears at n q r → LeavesOnly s r Q
  torn_beside at n q r l m on tears = torn_on at n s q r Q m on tears (λ d c u differs. untouched_on own at n s.seen d c l (holder_fits own s.seen is) u differs)

  pub synced_beside : (q r : PlateState) → LeavesOnly s q Q → GoesOn q r → NothingNew q r → LeavesOnly s r Q
  synced_beside q r m on none = went_on s q r Q m on none

  -- the numbers, the body, and the third gate
  pub numbers_beside : (at n : ℕ) (r : PlateState) → at ≡ start_of (after own) → n ≡ 12 → GoesOn s r → Tears (at + 4096) n s r → LeavesOnly s r Q
  numbers_beside at n r there long on tears = torn_beside (at + 4096) n s r (next_leaves own (at + 4096) n (omega (arith, there)) (omega (arith, there, long))) begun on tears

  pub body_beside : (at n : ℕ) (q r : PlateState) → at ≡ start_of (after own) → n ≤ MAX_RECORD_LEN → LeavesOnly s q Q → GoesOn q r → Tears (at + 4108) n q r → LeavesOnly s r Q
  body_beside at n q r there fits m on tears = torn_beside (at + 4108) n q r (next_leaves own (at + 4108) n (omega (arith, there)) (omega (arith, there, fits))) m on tears

  pub gate_beside : (at : ℕ) (q r : PlateState) → at ≡ start_of (after (after own)) → LeavesOnly s q Q → GoesOn q r → Tears at 1 q r → LeavesOnly s r Q
  gate_beside at q r there m on tears = torn_beside at 1 q r (subst (λ (j : ℕ). LeavesOwn own j 1) (sym there) (third_leaves own)) m on tears

-- the three writes of the first step
pub record ArePrepared (own : Slot) (sequence : ℕ) (body : List ℕ) (s a b d : Image) : Type 0 where
  pub numbers : IsWritten (start_of (after own) + 4096) (numbers_of sequence (length body)) s a
  pub behind : IsWritten (start_of (after own) + 4108) body a b
  pub gate : IsWritten (start_of (after (after own))) (0 ∷ []) b d

third_apart : (own : Slot) (i m : ℕ) → start_of (after own) ≤ i → i + m ≤ start_of (after own) + 65536 → Apart (start_of (after (after own))) 1 i m
third_apart First i m low high = inl (omega arith)
third_apart Second i m low high = inr (omega arith)
third_apart Third i m low high = inl (omega arith)

pub prepared : (known : Known) (body : List ℕ) (s e : PlateState) (a b d : Image) → IsSettled s known → known.sequence < MAX_SEQUENCE → length body ≤ MAX_RECORD_LEN
    → ArePrepared known.own (known.sequence + 1) body s.seen a b d → Only d e → IsPlate e → IsWaiting e known body
prepared known body s e a b d settled next fits w only sound =
    let own = known.own in
    let x = after own in
    let n : length (numbers_of (known.sequence + 1) (length body)) ≡ 12 = refl in
    let seen : e.seen ≡ d = only e.seen sound.seen_may_be_left in
    let own_fits = holder_fits own s.seen settled.holder in
    let one = untouched_on own (start_of x + 4096) 12 s.seen s.seen a (next_leaves own (start_of x + 4096) 12 (omega arith) (omega arith)) own_fits (untouched_yet own s.seen) w.numbers.outside in
    let two = untouched_on own (start_of x + 4108) (length body) s.seen a b (next_leaves own (start_of x + 4108) (length body) (omega arith) (omega (arith, fits))) own_fits one w.behind.outside in
    let u = untouched_on own (start_of (after x)) 1 s.seen b d (third_leaves own) own_fits two w.gate.outside in
    let long_b : (head_on x b).length ≡ length body =
    length_apart (start_of x + 4108) (length body) a b w.behind.outside x (inl (omega arith)) ∙ written_length x (known.sequence + 1) (length body) s.seen a w.numbers (omega (arith, fits)) in
    let long_d : (head_on x d).length ≡ length body = length_apart (start_of (after x)) 1 b d w.gate.outside x (third_apart own (start_of x + 4104) 4 (omega arith) (omega arith)) ∙ long_b in
    let number_d : (head_on x d).sequence ≡ known.sequence + 1 =
    sequence_apart (start_of (after x)) 1 b d w.gate.outside x (third_apart own (start_of x + 4096) 8 (omega arith) (omega arith))
    ∙ sequence_apart (start_of x + 4108) (length body) a b w.behind.outside x (inl (omega arith))
    ∙ written_sequence x (known.sequence + 1) (length body) s.seen a w.numbers (omega (arith, next)) in
    let body_d : body_of x d ≡ body =
    body_apart (start_of (after x)) 1 b d w.gate.outside x
    (length_apart (start_of (after x)) 1 b d w.gate.outside x (third_apart own (start_of x + 4104) 4 (omega arith) (omega arith)))
    (third_apart own (start_of x + 4108) (head_on x b).length (omega arith) (omega (arith, long_b, fits)))
    ∙ written_body x body a b w.behind long_b in
    let shut_d : (head_on (after x) d).gate ≡ 0 = written_gate (after x) 0 b d w.gate in
    record {
      synced = subst (λ (i : Image). Only i e) (sym seen) only;
      holder = ap holder_on seen ∙ still_holds own s.seen d settled.holder u;
      number = settled.sequence ∙ ap (λ (h : Head). h.sequence) (sym u.same.head) ∙ ap (λ (i : Image). (head_on own i).sequence) (sym seen);
      next = ap (λ (i : Image). (head_on x i).sequence) seen ∙ number_d;
      long = ap (λ (i : Image). (head_on x i).length) seen ∙ long_d;
      behind = ap (λ (i : Image). body_of x i) seen ∙ body_d;
      shut = λ e'. omega (arith, shut_d, ap (λ (i : Image). (head_on (after x) i).gate) seen, e');
    }

-- ---- opening the next gate

gate_apart_own : (own : Slot) → Apart (start_of (after own)) 1 (start_of own) 65536
gate_apart_own First = inl (omega arith)
gate_apart_own Second = inl (omega arith)
gate_apart_own Third = inr (omega arith)

gate_apart_third : (own : Slot) → Apart (start_of (after own)) 1 (start_of (after (after own))) 1
gate_apart_third First = inr (omega arith)
gate_apart_third Second = inl (omega arith)
gate_apart_third Third = inr (omega arith)

gate_behind_mark : (own : Slot) → 8 ≤ start_of own
gate_behind_mark First = omega arith
gate_behind_mark Second = omega arith
gate_behind_mark Third = omega arith

module _ (known : Known) (at : ℕ) (body : List ℕ) (old : PlateState) (there : at ≡ start_of (after known.own)) (next : known.sequence < MAX_SEQUENCE) (fits : length body ≤ MAX_RECORD_LEN) (waiting : IsWaiting old known body) where
  abbrev own : Slot
  own = known.own

  abbrev x : Slot
  x = after known.own

  module _ (c : Image) (d : DiffersWithin at 1 old.seen c) where
    differs : DiffersWithin (start_of x) 1 old.seen c
    differs = subst (λ (j : ℕ). DiffersWithin j 1 old.seen c) there d

    mark : mark_on c ≡ mark_on old.seen
    mark = mark_apart (start_of x) 1 old.seen c differs (gate_behind_mark x)

    same_own : SameSlot own old.seen c
    same_own = slot_apart (start_of x) 1 old.seen c differs own (gate_apart_own own) (holder_fits own old.seen waiting.holder)

    sequence : (head_on x c).sequence ≡ known.sequence + 1
    sequence = sequence_apart (start_of x) 1 old.seen c differs x (inr (omega arith)) ∙ waiting.next

    long : (head_on x c).length ≡ length body
    long = length_apart (start_of x) 1 old.seen c differs x (inr (omega arith)) ∙ waiting.long

    x_body : body_of x c ≡ body_of x old.seen
    x_body = body_apart (start_of x) 1 old.seen c differs x (length_apart (start_of x) 1 old.seen c differs x (inr (omega arith))) (inr (omega arith))

    shut_third : (head_on (after x) c).gate ≢ OPEN
    shut_third e = waiting.shut (sym (gate_apart (start_of x) 1 old.seen c differs (after x) (gate_apart_third own)) ∙ e)

    opens : (head_on x c).gate ≡ OPEN → holder_on c ≡ Some x
    opens is_open = holder_there c x (record {
      mark = mark ∙ (holds old.seen own waiting.holder).mark;
      counted = counts_open (head_on x c) is_open (omega (arith, sequence)) (omega (arith, sequence)) (omega (arith, long));
      shut = shut_third;
    })

    stays_own : (head_on x c).gate ≢ OPEN → holder_on c ≡ Some own
    stays_own shut = let h = holds old.seen own waiting.holder in holder_there c own (record { mark = mark ∙ h.mark; counted = ap counts same_own.head ∙ h.counted; shut = shut })

    finds_either : FindsAmong (bodies_on Either own old.seen) c
    finds_either = elim (cases_eq (head_on x c).gate OPEN) [
      | inl is_open ↦ (body_of x old.seen, found_there x c (opens is_open) ∙ ap (λ (b : List ℕ). Some b) x_body, inr (inl refl))
      | inr shut ↦ (body_of own old.seen, found_there own c (stays_own shut) ∙ ap (λ (b : List ℕ). Some b) same_own.body, inl refl)
    ]

  pub opening_stays : (new : PlateState) → LeavesOnly old new (DiffersWithin at 1 old.seen) → Stays Either own old new
  opening_stays new m = record {
    moments = weakened old new (DiffersWithin at 1 old.seen) (FindsAmong (bodies_on Either own old.seen)) m finds_either;
    same = λ c left. λ i. (same_own c (m.now c left)).body i ∷ x_body c (m.now c left) i ∷ [];
  }

  pub opening_done : (new : PlateState) → IsWritten at (1 ∷ []) old.seen new.seen → Only new.seen new → IsSettled new (next_of known)
  opening_done new w only =
      let x_written : IsWritten (start_of x) (1 ∷ []) old.seen new.seen = subst (λ (j : ℕ). IsWritten j (1 ∷ []) old.seen new.seen) there w in
      record {
        synced = only;
        holder = opens new.seen w.outside (written_gate x 1 old.seen new.seen x_written);
        sequence = sym (sequence new.seen w.outside);
      }
