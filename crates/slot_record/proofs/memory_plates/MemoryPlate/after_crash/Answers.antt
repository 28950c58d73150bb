use Rattle.slot_record.proofs.PutFacts.{filled_allowed}
use Rattle.slot_record.proofs.memory_plates.MemoryPlate.after_crash.Goals as goal

pub returns-clause-allowed : goal.returns-clause-allowed
returns-clause-allowed c =
    let m = c.args.self.now in
    filled_allowed m.first c.args.fill m.calls c.in_ok-bytes.bytes.items c.holding.result c.in_ok-bytes.ensures.left c.holding.ensures.made
