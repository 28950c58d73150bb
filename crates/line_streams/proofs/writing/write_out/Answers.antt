use Rattle.line_streams.proofs.StreamFacts.{wrote_more, few_more}
use Rattle.line_streams.proofs.WriteFacts.{none_left}
use Rattle.line_streams.proofs.writing.write_out.Goals as goal

pub loop-count-preserved : goal.loop-count-preserved
loop-count-preserved g c = record {
  within = few_more c.args.text.now c.split_at.result.1.now c.loop-count.count c.in-Ok.some c.loop-count.invariant.within c.split_at.ensures.back c.in-Ok.ensures.bound;
  written = wrote_more c.args.text.now c.split_at.result.1.now c.loop-count.count c.in-Ok.some _ _ _ c.split_at.ensures.back c.loop-count.invariant.written c.in-Ok.ensures.bytes;
  nothing = none_left c.args.text.now c.loop-count.count c.loop-count-test.true;
}
