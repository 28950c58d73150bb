use Rattle.std.proofs.Common.{arith}
use Rattle.rotating_record.proofs.RecordFacts.{settled_on_plate}
use Rattle.rotating_record.proofs.records.RotatingRecord.format.Goals as goal

pub invariant_of-result : goal.invariant_of-result
invariant_of-result g c =
    let s = g.P.Plate.state c.lay_out.new.plate in
    settled_on_plate s c.in-Ok.known
    (omega (arith, c.size.ensures, c.if-size-lt-ROTATING_PLATE_LEN.false, c.lay_out.ensures.called.size))
    c.in-Ok.ensures.settled
