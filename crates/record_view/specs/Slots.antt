-- The slots of a file as they are computed. What they mean is in `Texts`, by the definitions of the two formats, and
-- lemmas show that both are the same.
use Rattle.std.specs.Prelude.{ℕ, ◌+◌, ◌==◌, ◌&&◌, not, nat_le, Bool, slice_index, Option, Some, None, if◌then◌else◌}
use Rattle.std.specs.Int.{w32, w64, from_be_bytes}
use Rattle.stable_record.specs.declared.formats.TheConstants.{MAX_RECORD_LEN}
use Rattle.slot_record.specs.declared.slots.TheConstants.{OPEN, MAX_SEQUENCE}
use Rattle.slot_record.specs.Images.{Image, part}
use Rattle.rotating_record.specs.declared.slots.TheConstants.{MARK}
use Rattle.rotating_record.specs.declared.slots.Slot.{Slot}
use Rattle.rotating_record.specs.declared.slots.Slot.TheVariants.{First, Second, Third}
use Rattle.record_view.specs.declared.slots.SlotView.{SlotView}

abbrev pub slot_seen_at : ℕ → ℕ → Image → SlotView
slot_seen_at gate numbers image = record {
  gate = slice_index image gate;
  sequence = from_be_bytes w64 (part numbers 8 image);
  length = from_be_bytes w32 (part (numbers + 8) 4 image);
}

abbrev pub counts_seen : SlotView → Bool
counts_seen s = s.gate == OPEN && nat_le 1 s.sequence && nat_le s.sequence MAX_SEQUENCE && nat_le s.length MAX_RECORD_LEN

abbrev pub rank_seen : SlotView → ℕ
rank_seen s = if counts_seen s then s.sequence else 0

abbrev pub has_seen : SlotView → SlotView → Bool
has_seen own next = counts_seen own && not (next.gate == OPEN)

abbrev pub holder_seen : ℕ → SlotView → SlotView → SlotView → Option Slot
holder_seen mark first second third =
    if mark == MARK then (
    if has_seen first second then Some First
    else (if has_seen second third then Some Second
    else (if has_seen third first then Some Third else None)))
    else None
