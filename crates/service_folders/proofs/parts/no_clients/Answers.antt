use Rattle.service_folders.proofs.PartFacts.{none_marked}
use Rattle.service_folders.proofs.parts.no_clients.Goals as goal

pub returns : goal.returns
returns c n = none_marked 1025 n
