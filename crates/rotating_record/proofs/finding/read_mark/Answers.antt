use Rattle.rotating_record.proofs.FindFacts.{mark_read}
use Rattle.rotating_record.proofs.finding.read_mark.Goals as goal

pub returns-clause-mark : goal.returns-clause-mark
returns-clause-mark g c = mark_read (g.P.Plate.state c.args.plate.now).seen c.read_at.new.buffer c.from_be_bytes.result c.in_ok-read_at.ensures.read c.from_be_bytes.ensures
