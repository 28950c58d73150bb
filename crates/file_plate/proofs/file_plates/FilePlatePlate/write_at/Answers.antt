use Rattle.file_plate.proofs.PlateFacts.{written_seen}
use Rattle.file_plate.proofs.file_plates.FilePlatePlate.write_at.Goals as goal

pub returns-clause-written : goal.returns-clause-written
returns-clause-written g c = written_seen c.args.at c.args.bytes.now c.args.self.now c.try_write.new.self c.try_write.result c.requires c.try_write.ensures.asks
