use Rattle.lossy_link.proofs.FateFacts.{odds_count}
use Rattle.lossy_link.proofs.laws.odds_are_thousandths.Goals as goal

pub returns : goal.returns
returns c = odds_count
