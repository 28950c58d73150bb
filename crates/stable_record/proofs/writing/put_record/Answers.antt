use Rattle.std.proofs.Common.{◌∙◌, length, arith}
use Rattle.stable_record.specs.Records.{head_bytes}
use Rattle.stable_record.proofs.RecordFacts.{written_more}
use Rattle.stable_record.proofs.writing.put_record.Goals as goal

pub loop-place-preserved : goal.loop-place-preserved
loop-place-preserved c =
    let r = c.args.node.now in
    c.in_ok-put_entry.ensures ∙ written_more c.args.out.now.items c.loop-place.out.items (head_bytes r.problem (length r.entries)) r.entries c.loop-place.place c.at.result (omega (arith, c.loop-place-test.true, c.len-place-end.ensures.len)) c.at.ensures c.loop-place.invariant
