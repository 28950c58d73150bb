use Rattle.book_recorders.proofs.MeetingFacts.{both_seen_if}
use Rattle.book_recorders.proofs.named.Named.meet.Goals as goal

pub returns-clause-shown : goal.returns-clause-shown
returns-clause-shown g c = both_seen_if c.meet.result _ c.args.one.now c.args.other.now c.meet.new.one c.meet.new.other c.meet.ensures.ok
