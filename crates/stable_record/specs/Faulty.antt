-- A record whose device fails now and then, exactly.
use Rattle.std.specs.Prelude.{◌≡◌, ℕ, ◌+◌, ◌-◌, ◌%◌, ◌==◌, ◌≤◌, ◌⊎◌, Bool, true, false, List, length, nat_le, nat_lt, if◌then◌else◌, Option, Some, None, Result, Ok, Err}
use Rattle.stable_record.specs.declared.faults.RecordFault.{RecordFault}
use Rattle.stable_record.specs.declared.faults.RecordFault.TheVariants.{Device, Stuck, TooLong, Memory}
use Rattle.stable_record.specs.declared.leaves.Leaves.{Leaves}
use Rattle.stable_record.specs.declared.leaves.Leaves.TheVariants.{Old, New}
use Rattle.stable_record.specs.declared.formats.TheConstants.{MAX_RECORD_LEN}
use Rattle.stable_record.specs.Finding.{most_failures}

pub record Faulty : Type 0 where
  -- what a restart finds
  pub bytes : List ℕ
  pub stuck : Bool
  pub failures : ℕ
  -- each keep whose number is a multiple of this one fails
  pub every : ℕ
  -- the number of the last keep for which the device was called, or 0
  pub calls : ℕ
  pub leaves : Leaves
  -- how many reopens fail before one succeeds
  pub bad_reopens : ℕ

-- one failure more, up to the greatest count
abbrev pub counted : ℕ → ℕ
counted n = if nat_lt n most_failures then n + 1 else n

abbrev pub left_by : Leaves → List ℕ → List ℕ → List ℕ
left_by Old before now = before
left_by New before now = now

-- no keep was made yet
abbrev pub new_faulty : List ℕ → ℕ → Leaves → Faulty
new_faulty bytes k leaves = record { bytes = bytes; stuck = false; failures = 0; every = k; calls = 0; leaves = leaves; bad_reopens = 0 }

-- the greatest number of a call
abbrev pub most_calls : ℕ
most_calls = 18446744073709551615

-- The number of the next call: calls are numbered from 1. Behind the greatest number they go on from
-- the rest that it leaves, so that what is a multiple of `every` stays one.
abbrev pub next_call : Faulty → ℕ
next_call f = if nat_lt f.calls most_calls then f.calls + 1 else f.calls % f.every + 1

-- the device fails at the next call: its number is a multiple of `every`
abbrev pub fails_next : Faulty → Bool
fails_next f = next_call f % f.every == 0

-- after a keep of these bytes for which the device was called
abbrev pub after_call : Faulty → List ℕ → Faulty
after_call f bytes =
    if fails_next f
    then record { bytes = left_by f.leaves f.bytes bytes; stuck = true; failures = counted f.failures; every = f.every; calls = next_call f; leaves = f.leaves; bad_reopens = f.bad_reopens }
    else record { bytes = bytes; stuck = false; failures = f.failures; every = f.every; calls = next_call f; leaves = f.leaves; bad_reopens = f.bad_reopens }

-- whether the device is called for a keep of these bytes
abbrev pub is_called : Faulty → List ℕ → Bool
is_called f bytes = if f.stuck then false else nat_le (length bytes) MAX_RECORD_LEN

-- the fault of a keep, or none, where memory is not refused
abbrev pub fault_of_keep : Faulty → List ℕ → Option RecordFault
fault_of_keep f bytes =
    if f.stuck then Some Stuck
    else (if nat_lt MAX_RECORD_LEN (length bytes) then Some TooLong
    else (if fails_next f then Some Device else None))

-- the fault of an answer, or none
abbrev pub fault_in : {X : Type 0} → Result X RecordFault → Option RecordFault
fault_in (Ok x) = None
fault_in (Err fault) = Some fault

-- what a keep of these bytes answers, and leaves
abbrev pub Keeps : {X : Type 0} → Faulty → List ℕ → Result X RecordFault → Faulty → Type 0
Keeps f bytes result g =
    ((result ≡ Err Memory) × (is_called f bytes ≡ true) × (g ≡ f))
    ⊎ ((fault_in result ≡ fault_of_keep f bytes) × (g ≡ (if is_called f bytes then after_call f bytes else f)))

-- after a reopen that the device was called for
abbrev pub after_reopen : Faulty → Faulty
after_reopen f =
    if nat_lt 0 f.bad_reopens
    then record { bytes = f.bytes; stuck = true; failures = counted f.failures; every = f.every; calls = f.calls; leaves = f.leaves; bad_reopens = f.bad_reopens - 1 }
    else record { bytes = f.bytes; stuck = false; failures = f.failures; every = f.every; calls = f.calls; leaves = f.leaves; bad_reopens = f.bad_reopens }

-- what a reopen answers, seen as bytes, and leaves
abbrev pub Reopens : {X : Type 0} → (X → List ℕ) → Faulty → Result X RecordFault → Faulty → Type 0
Reopens seen f (Ok x) g = (f.bad_reopens ≡ 0) × (seen x ≡ f.bytes) × (g ≡ after_reopen f)
Reopens seen f (Err fault) g =
    ((fault ≡ Memory) × (f.bad_reopens ≡ 0) × (g ≡ f))
    ⊎ ((fault ≡ Device) × (1 ≤ f.bad_reopens) × (g ≡ after_reopen f))
