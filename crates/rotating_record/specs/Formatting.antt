-- A plate with its mark, whose slots are all closed.
use Rattle.std.specs.Prelude.{◌≡◌, ◌≢◌}
use Rattle.slot_record.specs.declared.slots.TheConstants.{OPEN}
use Rattle.slot_record.specs.Plates.{PlateState, Only}
use Rattle.rotating_record.specs.declared.slots.Slot.{Slot}
use Rattle.rotating_record.specs.declared.slots.TheConstants.{MARK}
use Rattle.rotating_record.specs.Slots.{mark_on, head_on}

pub record IsEmpty (s : PlateState) : Type 0 where
  pub synced : Only s.seen s
  pub mark : mark_on s.seen ≡ MARK
  pub shut : (slot : Slot) → (head_on slot s.seen).gate ≢ OPEN
