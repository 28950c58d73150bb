use Rattle.lossy_link.proofs.FateFacts.{fates_follow_words}
use Rattle.lossy_link.proofs.laws.fates_follow_words.Goals as goal

pub returns : goal.returns
returns c = fates_follow_words
