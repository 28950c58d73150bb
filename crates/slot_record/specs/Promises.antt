-- What is promised of a record on a plate: of making, opening, keeping and reopening it. A format says by `record_on`
-- which record opening finds on an image. Records in two slots and in three share these promises.
use Rattle.std.specs.Prelude.{◌≡◌, ◌↔◌, ◌⊎◌, ℕ, ◌+◌, ◌<◌, ◌≤◌, Bool, true, false, List, [], ◌∷◌, length, Option, Some, None, Result, Err, IfErr}
use Rattle.std.specs.Option.{option_map}
use Rattle.lock_model.specs.Decisions.{Among}
use Rattle.stable_record.specs.declared.formats.TheConstants.{MAX_RECORD_LEN}
use Rattle.stable_record.specs.declared.faults.RecordFault.{RecordFault}
use Rattle.stable_record.specs.declared.faults.RecordFault.TheVariants as records
use Rattle.stable_record.specs.Finding.{Counts, FindsOnly, FindsOnlyOr, IsOneOrTwo, IsReopenFault}
use Rattle.slot_record.specs.declared.faults.SlotFault.{SlotFault}
use Rattle.slot_record.specs.declared.faults.SlotFault.TheVariants as slots
use Rattle.slot_record.specs.declared.slots.TheConstants.{MAX_SEQUENCE}
use Rattle.slot_record.specs.Images.{Image}
use Rattle.slot_record.specs.Plates.{PlateState, LeavesOnly, FailedOnce}

-- what contracts see of a record on a plate
pub record OnPlate (P : Type 0) : Type 0 where
  pub plate : P
  -- the sequence of the slot that has the record
  pub sequence : ℕ
  -- the bodies, one or two, one of which opening now may find
  pub finds : List (List ℕ)
  pub stuck : Bool

-- the record that opening finds on an image, with its sequence
abbrev pub Opening : Type 0
Opening = Image → Option (ℕ × List ℕ)

-- Opening finds just this record, whatever a crash leaves.
abbrev pub FindsJust : Opening → PlateState → ℕ → List ℕ → Type 0
FindsJust record_on s sequence body = (c : Image) → s.may_leave c → record_on c ≡ Some (sequence, body)

-- Opening finds no record, whatever a crash leaves.
abbrev pub FindsNone : Opening → PlateState → Type 0
FindsNone record_on s = (c : Image) → s.may_leave c → record_on c ≡ None

-- Opening finds one of these bodies on the image.
abbrev pub FindsOneOf : Opening → List (List ℕ) → Image → Type 0
FindsOneOf record_on bodies image = (body : List ℕ) × (option_map (λ r. r.1) (record_on image) ≡ Some body) × Among body bodies

-- There are one or two bodies, and opening finds one of them, whatever a crash leaves.
pub record FindsSome (record_on : Opening) (s : PlateState) (bodies : List (List ℕ)) : Type 0 where
  pub some : IsOneOrTwo bodies
  pub found : (c : Image) → s.may_leave c → FindsOneOf record_on bodies c

-- The record has just this body, of this sequence: opening finds it, whatever a crash leaves. No device call failed.
pub record HasJust {P : Type 0} (record_on : Opening) (old new : PlateState) (r : OnPlate P) (sequence : ℕ) (body : List ℕ) : Type 0 where
  pub finds : r.finds ≡ body ∷ []
  pub number : r.sequence ≡ sequence
  pub free : r.stuck ≡ false
  pub lasts : FindsJust record_on new sequence body
  pub fine : new.failures ≡ old.failures

-- A crash at any moment leaves an image that it could leave before.
abbrev pub LeavesAsBefore : PlateState → PlateState → Type 0
LeavesAsBefore old new = LeavesOnly old new old.may_leave

-- The record that was opened is that of one image that a crash could leave. From now on opening finds just this one, also if
-- its gate was not synced before.
pub record Opens {P : Type 0} (record_on : Opening) (old new : PlateState) (r : OnPlate P) (body : List ℕ) : Type 0 where
  pub has : HasJust record_on old new r r.sequence body
  pub was_there : (c : Image) × old.may_leave c × (record_on c ≡ Some (r.sequence, body))
  pub moments : LeavesAsBefore old new

-- Opening failed: a device call failed just if the fault is 402, and no slot has a record if it is 403.
pub record FailsToOpen (record_on : Opening) (old new : PlateState) (fault : SlotFault) : Type 0 where
  pub moments : LeavesAsBefore old new
  pub device : fault ≡ slots.Device → FailedOnce old.failures new.failures
  pub unfailed : (fault ≡ slots.Device) ⊎ (new.failures ≡ old.failures)
  pub none : fault ≡ slots.NotFormatted → FindsNone record_on new

-- a keep takes no memory but its plate's
abbrev pub IsKeepFault : RecordFault → Type 0
IsKeepFault fault = (fault ≡ records.Device) ⊎ ((fault ≡ records.Stuck) ⊎ ((fault ≡ records.TooLong) ⊎ (fault ≡ records.Spent)))

-- A keep is refused exactly if the record is stuck (302), else if the bytes are too many (303), else if its sequences are
-- spent (305). Then nothing has changed. Its only other fault is 301.
pub record RefusesToKeep {P T : Type 0} (old new : OnPlate P) (bytes : List ℕ) (result : Result T RecordFault) : Type 0 where
  pub faults : IfErr result IsKeepFault
  pub stuck : (result ≡ Err records.Stuck) ↔ (old.stuck ≡ true)
  pub too_long : (result ≡ Err records.TooLong) ↔ ((old.stuck ≡ false) × (MAX_RECORD_LEN < length bytes))
  pub spent : (result ≡ Err records.Spent) ↔ ((old.stuck ≡ false) × (length bytes ≤ MAX_RECORD_LEN) × (MAX_SEQUENCE ≤ old.sequence))
  pub unchanged : IfErr result (λ fault. (fault ≡ records.Device) ⊎ (new ≡ old))

-- The device failed, and the record is stuck: opening finds a body that it could find before, or these bytes.
abbrev pub FailsToKeep : {P : Type 0} → ℕ → ℕ → OnPlate P → List ℕ → OnPlate P → Type 0
FailsToKeep before now old bytes new = Counts before now × FindsOnlyOr old.finds bytes new.finds × (new.stuck ≡ true)

-- One device call failed at most.
abbrev pub FailsOnceAtMost : ℕ → ℕ → Type 0
FailsOnceAtMost before now = (before ≤ now) × (now ≤ before + 1)

-- The record that was reopened has just these bytes, which opening could find before.
pub record Reopens {P : Type 0} (record_on : Opening) (old_state new_state : PlateState) (old new : OnPlate P) (bytes : List ℕ) : Type 0 where
  pub among : Among bytes old.finds
  pub has : HasJust record_on old_state new_state new new.sequence bytes

-- A reopening that failed makes nothing new to be found. After 301 the record is stuck, and 304 has changed nothing.
pub record FailsToReopen {P T : Type 0} (before now : ℕ) (old new : OnPlate P) (result : Result T RecordFault) : Type 0 where
  pub faults : IfErr result IsReopenFault
  pub nothing_new : IfErr result (λ fault. FindsOnly old.finds new.finds)
  pub device : result ≡ Err records.Device → Counts before now × (new.stuck ≡ true)
  pub unchanged : result ≡ Err records.Memory → new ≡ old

-- The state has these bodies on each image that a crash leaves, and opening finds one of them.
pub record IsFoundBy (record_on : Opening) (bodies_on : Image → List (List ℕ)) (s : PlateState) : Type 0 where
  pub finds : (c : Image) → s.may_leave c → FindsOneOf record_on (bodies_on s.seen) c
  pub same : (c : Image) → s.may_leave c → bodies_on c ≡ bodies_on s.seen

-- From the old state to the new one each image is one on which opening finds one of the old bodies; and
-- what a crash may leave in the end has them all.
pub record StaysBy (record_on : Opening) (bodies_on : Image → List (List ℕ)) (old new : PlateState) : Type 0 where
  pub moments : LeavesOnly old new (FindsOneOf record_on (bodies_on old.seen))
  pub same : (c : Image) → new.may_leave c → bodies_on c ≡ bodies_on old.seen
