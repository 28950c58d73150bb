-- The steps of a keep, and what a crash leaves in each.
use Rattle.std.specs.Prelude.{◌≡◌, ◌≢◌, ℕ, ◌+◌, ◌<◌, ◌≤◌, true, List, length, Some}
use Rattle.stable_record.specs.declared.formats.TheConstants.{MAX_RECORD_LEN}
use Rattle.slot_record.specs.declared.slots.Slot.{Slot}
use Rattle.slot_record.specs.declared.slots.TheConstants.{OPEN, LEAST_PLATE_LEN, MAX_SEQUENCE}
use Rattle.slot_record.specs.declared.standing.Standing.{Standing}
use Rattle.slot_record.specs.declared.standing.Known.{Known}
use Rattle.slot_record.specs.Plates.{PlateState, Only}
use Rattle.slot_record.specs.Slots.{other_of, head_on, body_of, holder_on, record_on}
use Rattle.slot_record.specs.Promises.{StaysBy}
use Rattle.slot_record.specs.Records.{IsSettled, bodies_on}

-- a plate has its record, and room for these bytes as the next one
pub record CanKeep (s : PlateState) (known : Known) (body : List ℕ) : Type 0 where
  pub room : LEAST_PLATE_LEN ≤ s.size
  pub settled : IsSettled s known
  pub next : known.sequence < MAX_SEQUENCE
  pub fits : length body ≤ MAX_RECORD_LEN

-- the plate is synced, what is known of its slots is so, and this is the record's body
pub record IsKept (s : PlateState) (known : Known) (body : List ℕ) : Type 0 where
  pub settled : IsSettled s known
  pub bytes : body_of known.own s.seen ≡ body

-- the plate is synced, this slot has the record, and the other one's gate is closed
pub record IsClosed (s : PlateState) (own : Slot) (sequence : ℕ) : Type 0 where
  pub synced : Only s.seen s
  pub holder : holder_on s.seen ≡ Some own
  pub number : sequence ≡ (head_on own s.seen).sequence
  pub gate : (head_on (other_of own) s.seen).gate ≢ OPEN

-- behind that gate stands the next record
pub record IsWaiting (s : PlateState) (own : Slot) (sequence : ℕ) (body : List ℕ) : Type 0 where
  pub closed : IsClosed s own sequence
  pub next : (head_on (other_of own) s.seen).sequence ≡ sequence + 1
  pub length : (head_on (other_of own) s.seen).length ≡ length body
  pub behind : body_of (other_of own) s.seen ≡ body

-- what is known after the other slot's gate was opened
abbrev pub next_of : Known → Known
next_of known = record { own = other_of known.own; sequence = known.sequence + 1; other_open = true }

-- from the old state to the new one opening finds one of the old bodies, which are all there in the end
abbrev pub Stays : Standing → Slot → PlateState → PlateState → Type 0
Stays standing own old new = StaysBy record_on (bodies_on standing own) old new
