-- The numbers of the faults of plates, and what they are called as faults of a record.
use Rattle.std.specs.Prelude.{ℕ, Option, Some, None, Result, Ok, Err}
use Rattle.stable_record.specs.declared.faults.RecordFault.{RecordFault}
use Rattle.stable_record.specs.declared.faults.RecordFault.TheVariants as records
use Rattle.slot_record.specs.declared.faults.SlotFault.{SlotFault}
use Rattle.slot_record.specs.declared.faults.SlotFault.TheVariants as slots

abbrev pub slot_fault_number : SlotFault → ℕ
slot_fault_number slots.TooSmall = 401
slot_fault_number slots.Device = 402
slot_fault_number slots.NotFormatted = 403
slot_fault_number slots.TooLong = 404
slot_fault_number slots.Spent = 405
slot_fault_number slots.Memory = 406

-- no record answers that its plate is too small or not formatted
abbrev pub as_record_fault : SlotFault → Option RecordFault
as_record_fault slots.TooSmall = None
as_record_fault slots.Device = Some records.Device
as_record_fault slots.NotFormatted = None
as_record_fault slots.TooLong = Some records.TooLong
as_record_fault slots.Spent = Some records.Spent
as_record_fault slots.Memory = Some records.Memory

-- the fault of an answer that hands a plate back, or none
abbrev pub fault_of : {R P : Type 0} → Result R (P × SlotFault) → Option SlotFault
fault_of (Ok r) = None
fault_of (Err e) = Some e.1
