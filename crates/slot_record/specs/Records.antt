-- What a record on a plate is: what opening finds on each image, at each moment.
use Rattle.std.specs.Prelude.{◌≡◌, ◌↔◌, ◌⊎◌, ℕ, ◌≤◌, Bool, true, false, IsTrue, List, [], ◌∷◌, length, Some}
use Rattle.slot_record.specs.declared.faults.SlotFault.{SlotFault}
use Rattle.slot_record.specs.declared.faults.SlotFault.TheVariants as slots
use Rattle.slot_record.specs.declared.slots.Slot.{Slot}
use Rattle.slot_record.specs.declared.slots.TheConstants.{OPEN, LEAST_PLATE_LEN}
use Rattle.slot_record.specs.declared.standing.Standing.{Standing}
use Rattle.slot_record.specs.declared.standing.Standing.TheVariants.{Settled, Failed, Either}
use Rattle.slot_record.specs.declared.standing.Known.{Known}
use Rattle.slot_record.specs.declared.entries.TheConstants.{BUFFER_LEN}
use Rattle.slot_record.specs.Images.{Image}
use Rattle.slot_record.specs.Plates.{PlateState, Only}
use Rattle.slot_record.specs.Promises.{Opening, FindsOneOf, IsFoundBy}
use Rattle.slot_record.specs.Slots.{other_of, head_on, body_of, holder_on, record_on}

-- the faults of formatting and of opening a plate
abbrev pub IsFormatFault : SlotFault → Type 0
IsFormatFault fault = (fault ≡ slots.TooSmall) ⊎ ((fault ≡ slots.TooLong) ⊎ ((fault ≡ slots.Memory) ⊎ (fault ≡ slots.Device)))

abbrev pub IsOpenFault : SlotFault → Type 0
IsOpenFault fault = (fault ≡ slots.TooSmall) ⊎ ((fault ≡ slots.Memory) ⊎ ((fault ≡ slots.Device) ⊎ (fault ≡ slots.NotFormatted)))

-- opening finds one of these bodies on the image
abbrev pub FindsAmong : List (List ℕ) → Image → Type 0
FindsAmong bodies image = FindsOneOf record_on bodies image

-- the bodies that opening may find: that of the slot that has the record, and if a call failed while the gate
-- of the next record was opened that one's too
abbrev pub bodies : Standing → List ℕ → List ℕ → List (List ℕ)
bodies Settled own next = own ∷ []
bodies Failed own next = own ∷ []
bodies Either own next = own ∷ next ∷ []

abbrev pub bodies_on : Standing → Slot → Image → List (List ℕ)
bodies_on standing own image = bodies standing (body_of own image) (body_of (other_of own) image)

abbrev pub is_stuck : Standing → Bool
is_stuck Settled = false
is_stuck Failed = true
is_stuck Either = true

abbrev pub failed_of : Standing → Standing
failed_of Settled = Failed
failed_of Failed = Failed
failed_of Either = Either

-- the plate is synced, and what is known of its slots is so
pub record IsSettled (s : PlateState) (known : Known) : Type 0 where
  pub synced : Only s.seen s
  pub holder : holder_on s.seen ≡ Some known.own
  pub sequence : known.sequence ≡ (head_on known.own s.seen).sequence
  pub gate : IsTrue known.other_open ↔ ((head_on (other_of known.own) s.seen).gate ≡ OPEN)

-- whatever image a crash leaves, opening finds one of the bodies, and each image has the same ones
abbrev pub IsFound : PlateState → Standing → Slot → Type 0
IsFound s standing own = IsFoundBy record_on (bodies_on standing own) s

-- A keep of this body failed after that one was kept: opening finds what the standing says, and the record is stuck.
pub record IsTried (record_on : Opening) (bodies_on : Image → List (List ℕ)) (s : PlateState) (standing : Standing) (own body : List ℕ) : Type 0 where
  pub stuck : is_stuck standing ≡ true
  pub found : IsFoundBy record_on bodies_on s
  pub bodies : bodies_on s.seen ≡ bodies standing own body

-- what holds of a record on a plate between two calls
pub record IsOnPlate (s : PlateState) (known : Known) (standing : Standing) (buffer : List ℕ) : Type 0 where
  pub room : LEAST_PLATE_LEN ≤ s.size
  pub long : length buffer ≡ BUFFER_LEN
  pub found : IsFound s standing known.own
  pub settled : standing ≡ Settled → IsSettled s known
