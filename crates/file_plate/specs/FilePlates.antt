-- A plate over a file, by what the file was asked.
use Rattle.std.specs.Prelude.{◌≡◌, ◌≢◌, ◌⊎◌, ℕ, Bool, true, false, List, ◌∷◌, [], length, map, None, Result, IsOk, IsErr}
use Rattle.stable_record.specs.Faulty.{counted}
use Rattle.slot_record.specs.Images.{Image, part}
use Rattle.slot_record.specs.Plates.{PlateState}
use Rattle.slot_record.specs.MemoryPlates.{PlateCall, Idle, Written, Torn, Memory, state_of, content}
use Rattle.slot_record.specs.MemoryPlates as plates
use Rattle.file_plate.specs.Media.{MediumCall, Settled, Gave, Took, Synced, SettleFailed, ReadFailed, WriteFailed, SyncFailed}

-- what contracts see of a plate over a file
pub record OnFile : Type 0 where
  -- what the file held when it was opened
  pub first : Image
  -- what was asked of it, the latest call first
  pub asked : List MediumCall
  -- whether a call has failed: then no further one reaches the file
  pub broken : Bool
  pub failures : ℕ

-- a call of the file, as the disk model has it
abbrev pub plate_call : MediumCall → PlateCall
plate_call Settled = plates.Synced
plate_call (Gave at bytes) = Idle
plate_call (Took at bytes) = Written at bytes
plate_call Synced = plates.Synced
plate_call SettleFailed = Idle
plate_call (ReadFailed at n) = Idle
plate_call (WriteFailed at n) = Torn at n
plate_call SyncFailed = Idle

-- the plate as the disk model has it: what it held at first, and the calls
abbrev pub model_of : OnFile → Memory
model_of p = record { first = p.first; calls = map plate_call p.asked; fuse = None; failures = p.failures }

-- what a read gives, and what a crash may leave
abbrev pub file_state : OnFile → PlateState
file_state p = state_of (model_of p)

-- what a read gives
abbrev pub image_of : OnFile → Image
image_of p = content p.first (map plate_call p.asked)

-- a plate over a file that was opened just now: it was settled and then read whole
abbrev pub IsOpened : ℕ → OnFile → Type 0
IsOpened size p = (length p.first ≡ size) × (p.asked ≡ Gave 0 p.first ∷ Settled ∷ []) × (p.broken ≡ false) × (p.failures ≡ 0)

-- after a call that was done, after the first that failed, and after one that was not made
abbrev pub done : MediumCall → OnFile → OnFile
done call p = record { first = p.first; asked = call ∷ p.asked; broken = false; failures = p.failures }

abbrev pub broken_by : MediumCall → OnFile → OnFile
broken_by call p = record { first = p.first; asked = call ∷ p.asked; broken = true; failures = counted p.failures }

abbrev pub left_alone : OnFile → OnFile
left_alone p = record { first = p.first; asked = p.asked; broken = true; failures = counted p.failures }

-- What a call answers, and what it asks of the file: one call, of which the answer is Ok where it was done;
-- and none where a call failed before.
abbrev pub Asks : {T E : Type 0} → MediumCall → MediumCall → OnFile → Result T E → OnFile → Type 0
Asks call failed p result q =
    (IsOk result × (p.broken ≡ false) × (q ≡ done call p))
    ⊎ ((IsErr result × (p.broken ≡ false) × (q ≡ broken_by failed p)) ⊎ (IsErr result × (p.broken ≡ true) × (q ≡ left_alone p)))

-- A read answers Ok where the file gave what the image has. Where it gave other bytes it failed.
abbrev pub Reads : {T E : Type 0} → ℕ → List ℕ → OnFile → Result T E → OnFile → Type 0
Reads at found p result q =
    Asks (Gave at found) (ReadFailed at (length found)) p result q
    ⊎ (IsErr result × (p.broken ≡ false) × (found ≢ part at (length found) (image_of p)) × (q ≡ broken_by (Gave at found) p))
