-- What a record on a plate is between two calls.
use Rattle.std.proofs.Common.{◌≡◌, inl, ℕ, ◌≤◌, List, [], ◌∷◌, Option, Some, refl, sym, ◌∙◌, ap}
use Rattle.std.specs.Option.{option_map}
use Rattle.slot_record.specs.Images.{Image}
use Rattle.slot_record.specs.Plates.{PlateState}
use Rattle.rotating_record.specs.declared.slots.Slot.{Slot}
use Rattle.rotating_record.specs.declared.slots.TheConstants.{ROTATING_PLATE_LEN}
use Rattle.slot_record.specs.declared.standing.Standing.TheVariants.{Settled}
use Rattle.rotating_record.specs.declared.standing.Known.{Known}
use Rattle.rotating_record.specs.Slots.{head_on, body_of, record_on}
use Rattle.rotating_record.specs.Records.{IsSettled, IsFound, IsOnPlate}

-- the record that opening finds
pub settled_record : (s : PlateState) (known : Known) → IsSettled s known → (c : Image) → s.may_leave c → record_on c ≡ Some (known.sequence, body_of known.own s.seen)
settled_record s known settled c left =
    let record_of : Option Slot → Option (ℕ × List ℕ) = λ h. option_map (λ slot. ((head_on slot s.seen).sequence, body_of slot s.seen)) h in
    ap record_on (settled.synced c left) ∙ ap record_of settled.holder ∙ ap (λ (n : ℕ). Some (n, body_of known.own s.seen)) (sym settled.sequence)

pub settled_found : (s : PlateState) (known : Known) → IsSettled s known → IsFound s Settled known.own
settled_found s known settled = record {
  finds = λ c left. (body_of known.own s.seen, ap (option_map (λ r. r.1)) (settled_record s known settled c left), inl refl);
  same = λ c left. ap (λ (i : Image). body_of known.own i ∷ []) (settled.synced c left);
}

pub settled_on_plate : (s : PlateState) (known : Known) → ROTATING_PLATE_LEN ≤ s.size → IsSettled s known → IsOnPlate s known Settled
settled_on_plate s known room settled = record { room = room; found = settled_found s known settled; settled = λ _. settled }
