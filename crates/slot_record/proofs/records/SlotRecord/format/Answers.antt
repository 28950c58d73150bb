use Rattle.std.proofs.Common.{arith}
use Rattle.std.proofs.lemmas.Grind.{common_steps}
use Rattle.slot_record.proofs.RecordFacts.{settled_on_plate}
use Rattle.slot_record.proofs.records.SlotRecord.format.Goals as goal

pub invariant_of-result : goal.invariant_of-result
invariant_of-result g c =
    let s = g.P.Plate.state c.lay_out.new.plate in
    settled_on_plate s c.in-Ok-lay_out.known _
    (omega (arith, c.size.ensures, c.if-size-lt-LEAST_PLATE_LEN.false, c.lay_out.ensures.called.size))
    (grind (arith, common_steps))
    c.in-Ok-lay_out.ensures.settled
