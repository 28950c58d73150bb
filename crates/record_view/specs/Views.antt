-- What is seen of a record's file.
use Rattle.std.specs.Prelude.{◌≡◌, ◌⊎◌, ◌==◌, ℕ, Bool, List, length, Option, is_some, Vec, if◌then◌else◌}
use Rattle.std.specs.Global.{Global}
use Rattle.std.specs.Option.{option_map}
use Rattle.slot_record.specs.Images.{Image}
use Rattle.slot_record.specs.Plates.{Only}
use Rattle.slot_record.specs.MemoryPlates.{Memory, state_of}
use Rattle.slot_record.specs.declared.slots.TheConstants.{LEAST_PLATE_LEN}
use Rattle.rotating_record.specs.declared.slots.TheConstants.{ROTATING_PLATE_LEN}
use Rattle.rotating_record.specs.Slots.{found_on}
use Rattle.file_plate.specs.declared.faults.FileFault.{FileFault}
use Rattle.file_plate.specs.declared.faults.FileFault.TheVariants as faults
use Rattle.record_view.specs.declared.files.SeenFile.{SeenFile}
use Rattle.record_view.specs.declared.reports.Verdict.{Verdict}
use Rattle.record_view.specs.declared.reports.Verdict.TheVariants.{Opens, NotWritable, WrongSize, NoRecord}

-- a body that was found, or none, is the one that opening finds
abbrev pub Finds : Option (Vec ℕ Global) → Option (List ℕ) → Type 0
Finds body found = option_map (λ v. v.items) body ≡ found

-- a plate in memory holds these bytes, and a crash leaves them
pub record IsImageOf (bytes : Image) (m : Memory) : Type 0 where
  pub synced : Only bytes (state_of m)

-- the size of a format: of two slots or of three
abbrev pub IsSize : ℕ → Type 0
IsSize size = (size ≡ LEAST_PLATE_LEN) ⊎ (size ≡ ROTATING_PLATE_LEN)

-- a file of such a size was read to its end
abbrev pub IsWhole : SeenFile → Type 0
IsWhole f = IsSize f.size → length f.bytes.items ≡ f.size

-- whether opening finds a record in three slots
abbrev pub Knows : SeenFile → Bool → Type 0
Knows f has = f.size ≡ ROTATING_PLATE_LEN → has ≡ is_some (found_on f.bytes.items)

-- What opening would come to: it opens a file for writing first, then looks at its size, and then for a record in
-- three slots.
abbrev pub verdict_on : SeenFile → Verdict
verdict_on f =
    if f.writable then (
    if f.size == ROTATING_PLATE_LEN then (
    if is_some (found_on f.bytes.items) then Opens else NoRecord)
    else WrongSize)
    else NotWritable

-- the faults of a file that can't be looked at
abbrev pub IsLookFault : FileFault → Type 0
IsLookFault fault = (fault ≡ faults.Missing) ⊎ ((fault ≡ faults.Unreadable) ⊎ (fault ≡ faults.Memory))
