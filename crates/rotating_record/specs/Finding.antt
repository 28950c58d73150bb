-- What is read of the slots.
use Rattle.std.specs.Prelude.{◌≡◌, ℕ, List, ◌==◌, if◌then◌else◌, Option, Some, None, MatchOption}
use Rattle.slot_record.specs.Plates.{PlateState}
use Rattle.rotating_record.specs.declared.slots.Slot.{Slot}
use Rattle.rotating_record.specs.declared.slots.Slot.TheVariants.{First, Second, Third}
use Rattle.rotating_record.specs.declared.slots.TheConstants.{MARK}
use Rattle.rotating_record.specs.declared.heads.Head.{Head}
use Rattle.rotating_record.specs.declared.finding.Found.{Found}
use Rattle.rotating_record.specs.declared.standing.Known.{Known}
use Rattle.rotating_record.specs.Slots.{has_record, head_on, holder_on}
use Rattle.rotating_record.specs.Records.{IsSettled}
use Rattle.rotating_record.specs.Keeping.{IsKept}

-- what is known where this slot has the record
abbrev pub found_in : Slot → Head → Found
found_in slot own = record { known = record { own = slot; sequence = own.sequence }; length = own.length }

-- which slot has the record, by the mark and the heads
abbrev pub chosen : ℕ → Head → Head → Head → Option Found
chosen mark first second third =
    if mark == MARK then (
    if has_record first second then Some (found_in First first)
    else (if has_record second third then Some (found_in Second second)
    else (if has_record third first then Some (found_in Third third) else None)))
    else None

-- what is known of the slots is so, or none of them has the record
abbrev pub IsLookedUp : PlateState → Option Found → Type 0
IsLookedUp s found =
    MatchOption found (holder_on s.seen ≡ None)
    (λ f. IsSettled s f.known × (f.length ≡ (head_on f.known.own s.seen).length))

-- the record was found with its body, or no slot has it
abbrev pub IsSearched : PlateState → Option Known → List ℕ → Type 0
IsSearched s found body = MatchOption found (holder_on s.seen ≡ None) (λ known. IsKept s known body)
