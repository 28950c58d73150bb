use Rattle.slot_record.specs.Slots.{record_on}
use Rattle.record_view.proofs.ViewFacts.{none_on_bytes}
use Rattle.record_view.proofs.finding.find_in_two.Goals as goal

pub returns-in-Err-default-NotFormatted : goal.returns-in-Err-default-NotFormatted
returns-in-Err-default-NotFormatted c =
    let err = c.in-Err-default-NotFormatted in
    record { found = none_on_bytes record_on c.args.bytes.now c.in_ok-plate.plate err.field-0-0 c.in_ok-plate.ensures.holds err.ensures.failed.moments (err.ensures.failed.none err.field-0-1-is) }
