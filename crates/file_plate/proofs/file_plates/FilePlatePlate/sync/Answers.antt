use Rattle.file_plate.proofs.PlateFacts.{synced_leaves}
use Rattle.file_plate.proofs.file_plates.FilePlatePlate.sync.Goals as goal

pub returns-clause-images : goal.returns-clause-images
returns-clause-images g c = synced_leaves c.args.self.now c.try_sync.new.self c.try_sync.result c.try_sync.ensures.asks
