-- A plate whose slots are both closed.
use Rattle.std.specs.Prelude.{◌≢◌}
use Rattle.slot_record.specs.declared.slots.Slot.TheVariants.{First, Second}
use Rattle.slot_record.specs.declared.slots.TheConstants.{OPEN}
use Rattle.slot_record.specs.Plates.{PlateState, Only}
use Rattle.slot_record.specs.Slots.{head_on}

pub record IsEmpty (s : PlateState) : Type 0 where
  pub synced : Only s.seen s
  pub first : (head_on First s.seen).gate ≢ OPEN
  pub second : (head_on Second s.seen).gate ≢ OPEN
