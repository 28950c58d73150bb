use Rattle.merge_service.proofs.MergeFacts.{settings_refused}
use Rattle.merge_service.proofs.serving.merge_head.Goals as goal

pub returns-in-Err : goal.returns-in-Err
returns-in-Err g c =
    let out = g.W.Write.contents in
    settings_refused c.args.judged c.args.head.now c.in-Err.fault c.args.journals.now (out c.args.writer.now) (out c.refuse_start.new.writer) c.refused.result c.in-Err.ensures.start (c.refuse_start.result, c.refused.ensures, c.refuse_start.ensures.told)
