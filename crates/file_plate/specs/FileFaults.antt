-- The faults of files: their numbers, and which call answers which.
use Rattle.std.specs.Prelude.{◌≡◌, ◌⊎◌, ℕ}
use Rattle.file_plate.specs.declared.faults.FileFault.{FileFault}
use Rattle.file_plate.specs.declared.faults.FileFault.TheVariants as faults

abbrev pub file_fault_number : FileFault → ℕ
file_fault_number faults.Held = 941
file_fault_number faults.Missing = 942
file_fault_number faults.WrongSize = 943
file_fault_number faults.NotFormatted = 944
file_fault_number faults.Unreadable = 945
file_fault_number faults.Unwritable = 946
file_fault_number faults.Exists = 947
file_fault_number faults.TooLong = 404
file_fault_number faults.Memory = 933

-- the faults of opening a file
abbrev pub IsHoldFault : FileFault → Type 0
IsHoldFault fault = (fault ≡ faults.Missing) ⊎ ((fault ≡ faults.Unreadable) ⊎ ((fault ≡ faults.Held) ⊎ (fault ≡ faults.WrongSize)))

-- those of reading it whole
abbrev pub IsOverFault : FileFault → Type 0
IsOverFault fault = (fault ≡ faults.Memory) ⊎ ((fault ≡ faults.Unwritable) ⊎ (fault ≡ faults.Unreadable))
