use Rattle.line_streams.proofs.WriteFacts.{wrote_part}
use Rattle.line_streams.proofs.writing.write_text.Goals as goal

pub returns-clause-text : goal.returns-clause-text
returns-clause-text g c = wrote_part c.args.text.now c.write_out-whole.result.0 _ _ c.write_out-whole.ensures.bytes (c.write_out-whole.ensures.fewer c.if-whole.false)
