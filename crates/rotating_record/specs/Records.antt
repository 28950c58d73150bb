-- What a record in three slots is: what opening finds on each image, at each moment.
use Rattle.std.specs.Prelude.{◌≡◌, ◌⊎◌, ℕ, ◌≤◌, List, Some}
use Rattle.slot_record.specs.declared.faults.SlotFault.{SlotFault}
use Rattle.slot_record.specs.declared.faults.SlotFault.TheVariants as slots
use Rattle.slot_record.specs.declared.standing.Standing.{Standing}
use Rattle.slot_record.specs.declared.standing.Standing.TheVariants.{Settled}
use Rattle.slot_record.specs.Images.{Image}
use Rattle.slot_record.specs.Plates.{PlateState, Only}
use Rattle.slot_record.specs.Promises.{FindsOneOf, IsFoundBy}
use Rattle.slot_record.specs.Records.{bodies}
use Rattle.rotating_record.specs.declared.slots.Slot.{Slot}
use Rattle.rotating_record.specs.declared.slots.TheConstants.{ROTATING_PLATE_LEN}
use Rattle.rotating_record.specs.declared.standing.Known.{Known}
use Rattle.rotating_record.specs.Slots.{after, head_on, body_of, holder_on, record_on}

-- the faults of formatting a plate, which takes no memory
abbrev pub IsFormatFault : SlotFault → Type 0
IsFormatFault fault = (fault ≡ slots.TooSmall) ⊎ ((fault ≡ slots.TooLong) ⊎ (fault ≡ slots.Device))

-- opening finds one of these bodies on the image
abbrev pub FindsAmong : List (List ℕ) → Image → Type 0
FindsAmong bodies image = FindsOneOf record_on bodies image

-- the bodies that opening may find: that of the slot that has the record, and that of the slot after it
abbrev pub bodies_on : Standing → Slot → Image → List (List ℕ)
bodies_on standing own image = bodies standing (body_of own image) (body_of (after own) image)

-- the plate is synced, and what is known of its slots is so
pub record IsSettled (s : PlateState) (known : Known) : Type 0 where
  pub synced : Only s.seen s
  pub holder : holder_on s.seen ≡ Some known.own
  pub sequence : known.sequence ≡ (head_on known.own s.seen).sequence

-- whatever image a crash leaves, opening finds one of the bodies, and each image has the same ones
abbrev pub IsFound : PlateState → Standing → Slot → Type 0
IsFound s standing own = IsFoundBy record_on (bodies_on standing own) s

-- what holds of a record on a plate between two calls
pub record IsOnPlate (s : PlateState) (known : Known) (standing : Standing) : Type 0 where
  pub room : ROTATING_PLATE_LEN ≤ s.size
  pub found : IsFound s standing known.own
  pub settled : standing ≡ Settled → IsSettled s known
