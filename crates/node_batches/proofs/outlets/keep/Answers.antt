use Rattle.std.proofs.Common.{Err, ap}
use Rattle.node_batches.proofs.BatchFacts.{failed_only}
use Rattle.node_batches.proofs.outlets.keep.Goals as goal

pub returns-in-Err-Device-clause-only : goal.returns-in-Err-Device-clause-only
returns-in-Err-Device-clause-only g c =
    let device = c.in-Err-Device.ensures.1.1.1.1.1.1.0 (ap Err c.in-Err-Device.field-0-is) in
    failed_only c.args.before.now c.args.next.now _ _ c.requires.found device.1
