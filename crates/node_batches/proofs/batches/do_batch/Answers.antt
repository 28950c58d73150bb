use Rattle.std.proofs.Common.{rules, false, ◌∙◌}
use Rattle.std.proofs.lemmas.Result.{on_err_weaker}
use Rattle.node_batches.proofs.BatchFacts.{copy_kept, half_out}
use Rattle.node_batches.proofs.batches.do_batch.Goals as goal

-- The record is kept, or not, and then some is sent.
pub returns-clause-kept : goal.returns-clause-kept
returns-clause-kept g c =
    let before = c.deref-2.ensures.value ∙ c.in_ok-before.ensures.bytes ∙ copy_kept c.args.recorder.now.log c.args.desk.now.core c.args.desk.now.copy false c.requires.rests.idle in
    let next = c.deref-3.ensures.value ∙ c.in_ok-next.ensures.bytes ∙ copy_kept c.let_out.new.self.log c.work_off.new.desk.core c.work_off.new.desk.copy false (search rules) in
    on_err_weaker c.keep_and_send.result
    (λ half. half_out c.args.recorder.now.log c.let_out.new.self.log c.deref-2.result.now c.deref-3.result.now c.in_ok-held.held.items _ _ _ c.requires.rests.run before next (search rules) (search rules) half)
    c.keep_and_send.ensures.half
