-- What is read of the slots.
use Rattle.std.specs.Prelude.{◌≡◌, ℕ, List, ◌==◌, nat_lt, if◌then◌else◌, Option, Some, None, MatchOption}
use Rattle.slot_record.specs.declared.slots.Slot.{Slot}
use Rattle.slot_record.specs.declared.slots.Slot.TheVariants.{First, Second}
use Rattle.slot_record.specs.declared.slots.TheConstants.{OPEN}
use Rattle.slot_record.specs.declared.heads.Head.{Head}
use Rattle.slot_record.specs.declared.finding.Found.{Found}
use Rattle.slot_record.specs.declared.standing.Known.{Known}
use Rattle.slot_record.specs.Plates.{PlateState}
use Rattle.slot_record.specs.Slots.{rank, head_on, holder_on}
use Rattle.slot_record.specs.Records.{IsSettled}
use Rattle.slot_record.specs.Keeping.{IsKept}

-- what is known where this slot has the record
abbrev pub found_in : Slot → Head → Head → Found
found_in slot own other = record { known = record { own = slot; sequence = own.sequence; other_open = other.gate == OPEN }; length = own.length }

-- which slot has the record, by the two heads
abbrev pub chosen : Head → Head → Option Found
chosen first second =
    if nat_lt (rank first) (rank second) then Some (found_in Second second first)
    else (if nat_lt 0 (rank first) then Some (found_in First first second) else None)

-- what is known of the slots is so, or none of them counts
abbrev pub IsLookedUp : PlateState → Option Found → Type 0
IsLookedUp s found =
    MatchOption found (holder_on s.seen ≡ None)
    (λ f. IsSettled s f.known × (f.length ≡ (head_on f.known.own s.seen).length))

-- the record was found with its body, or no slot counts
abbrev pub IsSearched : PlateState → Option Known → List ℕ → Type 0
IsSearched s found body = MatchOption found (holder_on s.seen ≡ None) (λ known. IsKept s known body)
