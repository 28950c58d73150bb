use Rattle.std.proofs.Common.{refl, rules}
use Rattle.client_loop.proofs.TalkFacts.{talks_still}
use Rattle.client_loop.proofs.posts.take_nudge.Goals as goal

pub returns-then-progress-clause-waits : goal.returns-then-progress-clause-waits
returns-then-progress-clause-waits g c = record { talks = talks_still _ _ _ _ _ _ _ refl refl c.requires; keeps = search rules; ended = search rules }
