-- Three slots on a plate, and the record that they hold. A number of several bytes has its highest byte first.
use Rattle.std.specs.Prelude.{ℕ, ◌+◌, ◌==◌, ◌&&◌, not, nat_le, Bool, List, ◌++◌, slice_index, Option, Some, None, if◌then◌else◌}
use Rattle.std.specs.Option.{option_map}
use Rattle.std.specs.Int.{w32, w64, to_be_bytes, from_be_bytes}
use Rattle.stable_record.specs.declared.formats.TheConstants.{MAX_RECORD_LEN}
use Rattle.slot_record.specs.declared.slots.TheConstants.{OPEN, MAX_SEQUENCE}
use Rattle.slot_record.specs.Images.{Image, part}
use Rattle.rotating_record.specs.declared.slots.Slot.{Slot}
use Rattle.rotating_record.specs.declared.slots.Slot.TheVariants.{First, Second, Third}
use Rattle.rotating_record.specs.declared.slots.TheConstants.{MARK}
use Rattle.rotating_record.specs.declared.heads.Head.{Head}

-- where a slot begins: the mark has a block of 4,096 bytes, and each slot 16 of them
abbrev pub start_of : Slot → ℕ
start_of First = 4096
start_of Second = 69632
start_of Third = 135168

-- the slots form a ring
abbrev pub after : Slot → Slot
after First = Second
after Second = Third
after Third = First

-- what a plate begins with
unfoldable pub mark_on : Image → ℕ
mark_on image = from_be_bytes w64 (part 0 8 image)

-- a slot's head: one byte for the gate, and in the next block eight for the sequence and four for the body's length
unfoldable pub head_on : Slot → Image → Head
head_on slot image = record {
  gate = slice_index image (start_of slot);
  sequence = from_be_bytes w64 (part (start_of slot + 4096) 8 image);
  length = from_be_bytes w32 (part (start_of slot + 4104) 4 image);
}

-- a slot's body, behind these numbers
unfoldable pub body_of : Slot → Image → List ℕ
body_of slot image = part (start_of slot + 4108) (head_on slot image).length image

-- a slot counts if its gate is open, and its sequence and its length are in their ranges
unfoldable pub counts : Head → Bool
counts head = head.gate == OPEN && nat_le 1 head.sequence && nat_le head.sequence MAX_SEQUENCE && nat_le head.length MAX_RECORD_LEN

-- a slot has the record if it counts and the gate of the slot after it is closed
abbrev pub has_record : Head → Head → Bool
has_record own next = counts own && not (next.gate == OPEN)

-- which slot has the record, by the mark and the heads
unfoldable pub holder : ℕ → Head → Head → Head → Option Slot
holder mark first second third =
    if mark == MARK then (
    if has_record first second then Some First
    else (if has_record second third then Some Second
    else (if has_record third first then Some Third else None)))
    else None

abbrev pub holder_on : Image → Option Slot
holder_on image = holder (mark_on image) (head_on First image) (head_on Second image) (head_on Third image)

-- the record that opening finds, with its sequence
abbrev pub record_on : Image → Option (ℕ × List ℕ)
record_on image = option_map (λ slot. ((head_on slot image).sequence, body_of slot image)) (holder_on image)

-- the body that opening finds
abbrev pub found_on : Image → Option (List ℕ)
found_on image = option_map (λ r. r.1) (record_on image)

-- the numbers that are written before a body
abbrev pub numbers_of : ℕ → ℕ → List ℕ
numbers_of sequence length = to_be_bytes w64 sequence ++ to_be_bytes w32 length
