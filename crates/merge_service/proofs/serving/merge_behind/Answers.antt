use Rattle.std.proofs.Common.{Ok, subst}
use Rattle.journal_merger.specs.declared.merging.Outcome.{Outcome}
use Rattle.journal_merger.specs.Merges.{Finds}
use Rattle.merge_service.proofs.MergeFacts.{written_so, stuck_so, failed_so}
use Rattle.merge_service.proofs.serving.merge_behind.Goals as goal

pub returns-in-Ok-Merged : goal.returns-in-Ok-Merged
returns-in-Ok-Merged g c =
    let out = g.W.Write.contents in
    let found = subst (λ (o : Outcome). Finds c.args.world c.args.journals.now (out c.put_head.new.writer) (out c.merge.new.writer) (Ok o)) c.in-Ok-Merged.field-0-is c.in-Ok-Merged.ensures in
    written_so c.args.head.now c.args.world c.args.journals.now (out c.args.writer.now) (out c.put_head.new.writer) (out c.merge.new.writer) c.in-Ok-Merged.field-0-0 c.in-Ok.ensures.text found

pub returns-in-Ok-Stuck : goal.returns-in-Ok-Stuck
returns-in-Ok-Stuck g c =
    let out = g.W.Write.contents in
    stuck_so c.args.head.now c.args.world c.args.journals.now (out c.args.writer.now) (out c.put_head.new.writer) (out c.merge.new.writer) _ _ c.in-Ok-Stuck.field-0-is c.in-Ok.ensures.text c.in-Ok-Stuck.ensures

pub returns-in-Err-merge : goal.returns-in-Err-merge
returns-in-Err-merge g c =
    let out = g.W.Write.contents in
    failed_so c.args.head.now c.args.world c.args.journals.now (out c.args.writer.now) (out c.put_head.new.writer) (out c.merge.new.writer) c.in-Err-merge.failure c.in-Ok.ensures.text c.in-Err-merge.ensures
