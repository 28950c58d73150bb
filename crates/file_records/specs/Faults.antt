-- The fault of a file that stands for a fault of the record on it.
use Rattle.std.specs.Prelude.{◌≡◌, ◌⊎◌, ℕ, List, None}
use Rattle.rotating_record.specs.Slots.{record_on}
use Rattle.slot_record.specs.declared.faults.SlotFault.{SlotFault}
use Rattle.slot_record.specs.declared.faults.SlotFault.TheVariants as slots
use Rattle.file_plate.specs.FileFaults.{IsOverFault}
use Rattle.file_plate.specs.FilePlates.{OnFile, file_state}
use Rattle.file_plate.specs.declared.faults.FileFault.{FileFault}
use Rattle.file_plate.specs.declared.faults.FileFault.TheVariants as files

abbrev pub file_fault_of : SlotFault → FileFault
file_fault_of slots.TooSmall = files.WrongSize
file_fault_of slots.Device = files.Unreadable
file_fault_of slots.NotFormatted = files.NotFormatted
file_fault_of slots.TooLong = files.TooLong
file_fault_of slots.Spent = files.Unreadable
file_fault_of slots.Memory = files.Memory

-- the faults of making a new record's file
abbrev pub IsDraftFault : FileFault → Type 0
IsDraftFault fault = (fault ≡ files.Exists) ⊎ ((fault ≡ files.Held) ⊎ IsOverFault fault)

-- the faults of finding the record on a file
abbrev pub IsOpenFault : FileFault → Type 0
IsOpenFault fault = IsOverFault fault ⊎ (fault ≡ files.NotFormatted)

-- whatever a crash leaves of the file, no slot has a record
abbrev pub HasNone : OnFile → Type 0
HasNone p = (c : List ℕ) → (file_state p).may_leave c → record_on c ≡ None
