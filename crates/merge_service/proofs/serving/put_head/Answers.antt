use Rattle.std.proofs.Common.{codes}
use Rattle.merge_service.proofs.MergeFacts.{begins_before, begins_then}
use Rattle.merge_service.proofs.serving.put_head.Goals as goal

pub returns-in-Ok-clause-text : goal.returns-in-Ok-clause-text
returns-in-Ok-clause-text g c =
    let out = g.W.Write.contents in
    begins_then (out c.args.writer.now) (out c.put.new.writer) (out c.put-in-Ok.new.writer) c.args.head.now (codes "---\n") c.put-in-Ok.result c.in-Ok.ensures.text c.put-in-Ok.ensures.text

pub returns-in-Err-clause-text : goal.returns-in-Err-clause-text
returns-in-Err-clause-text g c =
    let out = g.W.Write.contents in
    begins_before (out c.args.writer.now) (out c.put.new.writer) c.args.head.now (codes "---\n") c.in-Err.ensures.text
