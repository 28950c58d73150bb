use Rattle.std.proofs.Common.{◌≡◌, true, Err, subst}
use Rattle.stable_record.specs.declared.faults.RecordFault.TheVariants.{Device}
use Rattle.stable_record.specs.Finding.{Counts, FindsOnlyOr}
use Rattle.event_recorders.proofs.boxed_records.BoxedRecordStableRecord.keep.Goals as goal

-- the seventh clause of `keep` tells of its device
pub returns-clause-device : goal.returns-clause-device
returns-clause-device g c =
    let after = goal.StableRecord-dyn g (c.deref_box_mut-1.result.now.0, c.keep.new.self) in
    subst (λ v. c.keep.result ≡ Err Device → Counts ((goal.StableRecord-dyn g v).failures_of v.1) (after.failures_of c.keep.new.self) × FindsOnlyOr ((goal.StableRecord-dyn g v).finds v.1) c.args.bytes.now (after.finds c.keep.new.self) × (after.stuck_of c.keep.new.self ≡ true))
    c.deref_box_mut-1.ensures.value.1 c.keep.ensures.1.1.1.1.1.1.0
