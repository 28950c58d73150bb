-- What the two steps of a keep leave.
use Rattle.std.specs.Prelude.{◌≡◌, ◌≢◌, ℕ, ◌+◌, ◌<◌, ◌≤◌, List, length, Some}
use Rattle.stable_record.specs.declared.formats.TheConstants.{MAX_RECORD_LEN}
use Rattle.slot_record.specs.declared.slots.TheConstants.{OPEN, MAX_SEQUENCE}
use Rattle.slot_record.specs.declared.standing.Standing.{Standing}
use Rattle.slot_record.specs.Plates.{PlateState, Only}
use Rattle.slot_record.specs.Promises.{StaysBy}
use Rattle.rotating_record.specs.declared.slots.Slot.{Slot}
use Rattle.rotating_record.specs.declared.slots.TheConstants.{ROTATING_PLATE_LEN}
use Rattle.rotating_record.specs.declared.standing.Known.{Known}
use Rattle.rotating_record.specs.Slots.{after, head_on, body_of, holder_on, record_on}
use Rattle.rotating_record.specs.Records.{IsSettled, bodies_on}

-- a plate has its record, and room for these bytes as the next one
pub record CanKeep (s : PlateState) (known : Known) (body : List ℕ) : Type 0 where
  pub room : ROTATING_PLATE_LEN ≤ s.size
  pub settled : IsSettled s known
  pub next : known.sequence < MAX_SEQUENCE
  pub fits : length body ≤ MAX_RECORD_LEN

-- the plate is synced, what is known of its slots is so, and this is the record's body
pub record IsKept (s : PlateState) (known : Known) (body : List ℕ) : Type 0 where
  pub settled : IsSettled s known
  pub bytes : body_of known.own s.seen ≡ body

-- the plate is synced, and behind the closed gate of the slot after the record's stands the next record; the third
-- slot's gate is closed too
pub record IsWaiting (s : PlateState) (known : Known) (body : List ℕ) : Type 0 where
  pub synced : Only s.seen s
  pub holder : holder_on s.seen ≡ Some known.own
  pub number : known.sequence ≡ (head_on known.own s.seen).sequence
  pub next : (head_on (after known.own) s.seen).sequence ≡ known.sequence + 1
  pub long : (head_on (after known.own) s.seen).length ≡ length body
  pub behind : body_of (after known.own) s.seen ≡ body
  pub shut : (head_on (after (after known.own)) s.seen).gate ≢ OPEN

-- what is known after the gate of the slot after the record's was opened
abbrev pub next_of : Known → Known
next_of known = record { own = after known.own; sequence = known.sequence + 1 }

-- from the old state to the new one opening finds one of the old bodies, which are all there in the end
abbrev pub Stays : Standing → Slot → PlateState → PlateState → Type 0
Stays standing own old new = StaysBy record_on (bodies_on standing own) old new
