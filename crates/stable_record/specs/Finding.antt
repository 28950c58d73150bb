-- What a restart may find, and what a device's failure says.
use Rattle.std.specs.Prelude.{◌≡◌, ℕ, ◌<◌, ◌≤◌, ◌⊎◌, List, length}
use Rattle.lock_model.specs.Decisions.{Among}
use Rattle.stable_record.specs.declared.faults.RecordFault.{RecordFault}
use Rattle.stable_record.specs.declared.faults.RecordFault.TheVariants.{Device, Stuck, TooLong, Memory, Spent}

-- the faults of keeping, and of reopening
abbrev pub IsKeepFault : RecordFault → Type 0
IsKeepFault fault = (fault ≡ Device) ⊎ ((fault ≡ Stuck) ⊎ ((fault ≡ TooLong) ⊎ ((fault ≡ Spent) ⊎ (fault ≡ Memory))))

abbrev pub IsReopenFault : RecordFault → Type 0
IsReopenFault fault = (fault ≡ Device) ⊎ (fault ≡ Memory)

-- what may be found now could be found before
abbrev pub FindsOnly : List (List ℕ) → List (List ℕ) → Type 0
FindsOnly before now = (found : List ℕ) → Among found now → Among found before

-- what may be found now could be found before, or is these bytes
abbrev pub FindsOnlyOr : List (List ℕ) → List ℕ → List (List ℕ) → Type 0
FindsOnlyOr before bytes now = (found : List ℕ) → Among found now → Among found before ⊎ (found ≡ bytes)

-- one or two byte strings
abbrev pub IsOneOrTwo : List (List ℕ) → Type 0
IsOneOrTwo strings = (1 ≤ length strings) × (length strings ≤ 2)

-- the greatest count of failures
abbrev pub most_failures : ℕ
most_failures = 18446744073709551615

-- a count of failures rose, or stood at its greatest
abbrev pub Counts : ℕ → ℕ → Type 0
Counts before now = (before < now) ⊎ (most_failures ≤ before)
