use Rattle.std.proofs.Common.{◌∙◌}
use Rattle.std.proofs.lemmas.Result.{err_from_is_err_and}
use Rattle.stable_record.proofs.RecordFacts.{starts, one_more, ends}
use Rattle.stable_record.proofs.reading.Unread.entries.Goals as goal

pub loop-init : goal.loop-init
loop-init c = starts c.args.self.now.bytes.now c.new-entries.result c.new-entries.ensures

pub loop-preserved : goal.loop-preserved
loop-preserved c = one_more c.loop.counter c.args.self.now.bytes.now (c.loop.entries, c.loop.self.bytes.now) c.loop.invariant ∙ c.in_ok-next_entry.ensures

pub returns-in_err-next_entry : goal.returns-in_err-next_entry
returns-in_err-next_entry c =
    let p = err_from_is_err_and c.from_residual.result c.from_residual.ensures.1 in
    rw (p.1, p.2) (ends c.loop.counter c.args.count c.args.self.now.bytes.now (c.loop.entries, c.loop.self.bytes.now) c.in_err-next_entry.field-0.0 c.loop-test.true c.loop.invariant c.in_err-next_entry.ensures)
