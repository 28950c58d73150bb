use Rattle.std.proofs.Common.{subst}
use Rattle.std.specs.Prelude.{IfErr}
use Rattle.stable_record.specs.Finding.{FindsOnly}
use Rattle.event_recorders.proofs.boxed_records.BoxedRecordStableRecord.reopen.Goals as goal

-- the third clause of `reopen` tells that nothing new is found
pub returns-clause-nothing_new : goal.returns-clause-nothing_new
returns-clause-nothing_new g c =
    let after = goal.StableRecord-dyn g (c.deref_box_mut-1.result.now.0, c.reopen.new.self) in
    subst (λ v. IfErr c.reopen.result (λ fault. FindsOnly ((goal.StableRecord-dyn g v).finds v.1) (after.finds c.reopen.new.self)))
    c.deref_box_mut-1.ensures.value.1 c.reopen.ensures.1.1.0
