use Rattle.std.proofs.Common.{refl, rules}
use Rattle.client_loop.proofs.TalkFacts.{talks_still}
use Rattle.client_loop.proofs.talking.tell.Goals as goal

pub returns-in_err-number-clause-says : goal.returns-in_err-number-clause-says
returns-in_err-number-clause-says g c = record { talks = talks_still _ _ _ _ _ _ _ c.in_err-number.ensures.ended.unlogged refl c.said.ensures.stands; faults = search rules }
