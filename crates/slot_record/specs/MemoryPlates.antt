-- A plate in memory, by its record of calls.
use Rattle.std.specs.Prelude.{◌≡◌, ◌⊎◌, ℕ, zero, suc, ◌+◌, ◌-◌, ◌<◌, ◌≤◌, ◌^◌, Bool, true, false, nat_lt, if◌then◌else◌, List, [], ◌∷◌, length, replicate, Option, Some, None, Result, IsOk, IsErr}
use Rattle.stable_record.specs.Faulty.{counted}
use Rattle.slot_record.specs.declared.memory_plates.Call.{Call}
use Rattle.slot_record.specs.declared.memory_plates.Call.TheVariants as code
use Rattle.slot_record.specs.Images.{Image, DiffersWithin}
use Rattle.slot_record.specs.Plates.{PlateState}

-- one device call, as the record has it
pub data PlateCall : Type 0 where
  -- a read, or a sync that failed
  Idle : PlateCall
  Written : (at : ℕ) (bytes : List ℕ) → PlateCall
  -- a write that failed, of n bytes
  Torn : (at n : ℕ) → PlateCall
  Synced : PlateCall

abbrev pub call_of : Call → PlateCall
call_of code.Idle = Idle
call_of (code.Written at bytes) = Written at bytes.items
call_of (code.Torn at n) = Torn at n
call_of code.Synced = Synced

-- a plate in memory
pub record Memory : Type 0 where
  -- what it held when it was made
  pub first : Image
  -- its calls, the newest first
  pub calls : List PlateCall
  -- how many calls it is, the next one among them, up to the one that fails, if a fuse is set
  pub fuse : Option ℕ
  pub failures : ℕ

-- the image with these bytes from a place on; what would go past its end is left out
abbrev pub put : ℕ → List ℕ → Image → Image
put zero [] image = image
put zero (b ∷ bytes) [] = []
put zero (b ∷ bytes) (x ∷ image) = b ∷ put zero bytes image
put (suc at) bytes [] = []
put (suc at) bytes (x ∷ image) = x ∷ put at bytes image

-- what a read gives after these calls
abbrev pub content : Image → List PlateCall → Image
content first [] = first
content first (Idle ∷ calls) = content first calls
content first (Written at bytes ∷ calls) = put at bytes (content first calls)
content first (Torn at n ∷ calls) = content first calls
content first (Synced ∷ calls) = content first calls

-- the images that a crash after these calls may leave: any bytes where something was written since the last
-- sync that succeeded, also where the write failed
abbrev pub MayLeave : Image → List PlateCall → Image → Type 0
MayLeave first [] c = c ≡ first
MayLeave first (Idle ∷ calls) c = MayLeave first calls c
MayLeave first (Written at bytes ∷ calls) c = (d : Image) × MayLeave first calls d × DiffersWithin at (length bytes) d c
MayLeave first (Torn at n ∷ calls) c = (d : Image) × MayLeave first calls d × DiffersWithin at n d c
MayLeave first (Synced ∷ calls) c = c ≡ content first calls

-- those that a crash may have left since the moment when there were t calls
abbrev pub LeftSince : Image → List PlateCall → ℕ → Image → Type 0
LeftSince first [] t c = MayLeave first [] c
LeftSince first (call ∷ calls) t c = MayLeave first (call ∷ calls) c ⊎ ((t ≤ length calls) × LeftSince first calls t c)

abbrev pub state_of : Memory → PlateState
state_of m = record {
  size = length m.first;
  failures = m.failures;
  seen = content m.first m.calls;
  clock = length m.calls;
  may_leave = MayLeave m.first m.calls;
  left_since = LeftSince m.first m.calls;
}

-- whether the next call is done
abbrev pub lasts : Option ℕ → Bool
lasts None = true
lasts (Some k) = nat_lt 1 k

-- the fuse after one call more
abbrev pub burnt : Option ℕ → Option ℕ
burnt None = None
burnt (Some k) = Some (if nat_lt 1 k then k - 1 else k)

-- after a call that was done
abbrev pub done : PlateCall → Memory → Memory
done call m = record { first = m.first; calls = call ∷ m.calls; fuse = burnt m.fuse; failures = m.failures }

-- after one that failed, and after one for which the record of calls had no memory, which failed too
abbrev pub broken : PlateCall → Memory → Memory
broken call m = record { first = m.first; calls = call ∷ m.calls; fuse = burnt m.fuse; failures = counted m.failures }

abbrev pub refused : Memory → Memory
refused m = record { first = m.first; calls = m.calls; fuse = burnt m.fuse; failures = counted m.failures }

-- what a call answers and makes of the plate: it is done where the fuse lasts and memory is not refused
abbrev pub Makes : {T E : Type 0} → PlateCall → PlateCall → Memory → Result T E → Memory → Type 0
Makes call failed m result n =
    (IsOk result × (lasts m.fuse ≡ true) × (n ≡ done call m))
    ⊎ (IsErr result × ((n ≡ refused m) ⊎ ((lasts m.fuse ≡ false) × (n ≡ broken failed m))))

-- the image with one byte wherever something was written since the last sync that succeeded
abbrev pub filled : ℕ → List PlateCall → Image → Image
filled fill [] image = image
filled fill (Idle ∷ calls) image = filled fill calls image
filled fill (Written at bytes ∷ calls) image = filled fill calls (put at (replicate (length bytes) fill) image)
filled fill (Torn at n ∷ calls) image = filled fill calls (put at (replicate n fill) image)
filled fill (Synced ∷ calls) image = image

-- what was written lies within so many bytes
abbrev pub IsWithin : ℕ → List PlateCall → Type 0
IsWithin size [] = Unit {0}
IsWithin size (Idle ∷ calls) = IsWithin size calls
IsWithin size (Written at bytes ∷ calls) = (at + length bytes ≤ size) × IsWithin size calls
IsWithin size (Torn at n ∷ calls) = (at + n ≤ size) × IsWithin size calls
IsWithin size (Synced ∷ calls) = IsWithin size calls

-- the bytes are those that a read gives after the calls
pub record IsMemory (bytes first : Image) (calls : List PlateCall) : Type 0 where
  pub content : bytes ≡ content first calls
  pub long : length bytes ≡ length first
  pub small : length first < 2 ^ 32
  pub within : IsWithin (length first) calls
