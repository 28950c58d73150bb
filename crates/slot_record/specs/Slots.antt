-- Two slots on a plate, and the record that they hold. A number of several bytes has its highest byte first.
use Rattle.std.specs.Prelude.{ℕ, ◌+◌, ◌==◌, ◌&&◌, nat_lt, nat_le, Bool, List, ◌++◌, length, slice_index, Option, Some, None, if◌then◌else◌}
use Rattle.std.specs.Option.{option_map}
use Rattle.std.specs.Int.{w32, w64, to_be_bytes, from_be_bytes}
use Rattle.stable_record.specs.declared.formats.TheConstants.{MAX_RECORD_LEN}
use Rattle.slot_record.specs.declared.slots.Slot.{Slot}
use Rattle.slot_record.specs.declared.slots.Slot.TheVariants.{First, Second}
use Rattle.slot_record.specs.declared.slots.TheConstants.{SLOT_LEN, OPEN, MAX_SEQUENCE}
use Rattle.slot_record.specs.declared.heads.Head.{Head}
use Rattle.slot_record.specs.Images.{Image, part}

-- where a slot begins
abbrev pub start_of : Slot → ℕ
start_of First = 0
start_of Second = SLOT_LEN

abbrev pub other_of : Slot → Slot
other_of First = Second
other_of Second = First

-- a slot's head: one byte for the gate, eight for the sequence, four for the body's length
unfoldable pub head_on : Slot → Image → Head
head_on slot image = record {
  gate = slice_index image (start_of slot);
  sequence = from_be_bytes w64 (part (start_of slot + 1) 8 image);
  length = from_be_bytes w32 (part (start_of slot + 9) 4 image);
}

-- a slot's body, behind its head
unfoldable pub body_of : Slot → Image → List ℕ
body_of slot image = part (start_of slot + 13) (head_on slot image).length image

-- a slot counts where its gate is open, and its sequence and its length are in their ranges
abbrev pub counts : Head → Bool
counts head = head.gate == OPEN && nat_le 1 head.sequence && nat_le head.sequence MAX_SEQUENCE && nat_le head.length MAX_RECORD_LEN

-- the sequence of a slot that counts, and 0 of one that does not
unfoldable pub rank : Head → ℕ
rank head = if counts head then head.sequence else 0

-- of two slots that count the one of greater sequence has the record; of equal ones it is the first
abbrev pub holder : ℕ → ℕ → Option Slot
holder first second = if nat_lt first second then Some Second else (if nat_lt 0 first then Some First else None)

-- which slot has the record, if one counts
abbrev pub holder_on : Image → Option Slot
holder_on image = holder (rank (head_on First image)) (rank (head_on Second image))

-- the record that opening finds, with its sequence
abbrev pub record_on : Image → Option (ℕ × List ℕ)
record_on image = option_map (λ slot. ((head_on slot image).sequence, body_of slot image)) (holder_on image)

-- the body that opening finds
abbrev pub found_on : Image → Option (List ℕ)
found_on image = option_map (λ r. r.1) (record_on image)

-- what is written behind a gate: sequence, length and body
abbrev pub entry_of : ℕ → List ℕ → List ℕ
entry_of sequence body = to_be_bytes w64 sequence ++ to_be_bytes w32 (length body) ++ body
