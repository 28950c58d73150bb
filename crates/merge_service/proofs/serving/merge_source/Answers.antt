use Rattle.merge_service.proofs.MergeFacts.{not_started, serves}
use Rattle.merge_service.proofs.serving.merge_source.Goals as goal

pub returns-in-Err : goal.returns-in-Err
returns-in-Err g c =
    let out = g.W.Write.contents in
    not_started c.args.judged c.args.source.now c.read_head.new.source (out c.args.writer.now) (out c.refuse_start.new.writer) c.args.journals.now c.read_head.new.head.items c.in-Err.fault c.refuse_start.result c.refused.result c.in-Err.ensures.head c.refuse_start.ensures.told c.refused.ensures

pub returns : goal.returns
returns g c =
    let out = g.W.Write.contents in
    serves c.args.judged c.args.source.now c.read_head.new.source (out c.args.writer.now) (out c.merge_head.new.writer) c.args.journals.now c.read_head.new.head.items c.as_slice.result.now tt c.merge_head.result c.in-Ok.ensures.head c.as_slice.ensures.value c.merge_head.ensures
