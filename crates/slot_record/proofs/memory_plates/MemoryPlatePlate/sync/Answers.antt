use Rattle.slot_record.proofs.PutFacts.{synced_leaves}
use Rattle.slot_record.proofs.memory_plates.MemoryPlatePlate.sync.Goals as goal

pub returns-clause-images : goal.returns-clause-images
returns-clause-images c = synced_leaves c.args.self.now c.try_sync.new.self c.try_sync.result c.try_sync.ensures.makes
