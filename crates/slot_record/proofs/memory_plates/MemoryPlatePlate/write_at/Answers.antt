use Rattle.slot_record.proofs.PutFacts.{written_seen}
use Rattle.slot_record.proofs.memory_plates.MemoryPlatePlate.write_at.Goals as goal

pub returns-clause-written : goal.returns-clause-written
returns-clause-written c = written_seen c.args.at c.args.bytes.now c.args.self.now c.try_write.new.self c.try_write.result c.requires c.try_write.ensures.makes
