use Rattle.lock_messages.proofs.FrameFacts.{one_spelling}
use Rattle.lock_messages.proofs.laws.one_spelling.Goals as goal

pub returns : goal.returns
returns c = one_spelling
