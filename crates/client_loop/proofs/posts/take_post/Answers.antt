use Rattle.std.proofs.Common.{rules}
use Rattle.client_loop.proofs.NudgeFacts.{book_has_none}
use Rattle.client_loop.proofs.TalkFacts.{talks_hearing}
use Rattle.client_loop.proofs.posts.take_post.Goals as goal

pub returns-in-Parcel-clause-waits : goal.returns-in-Parcel-clause-waits
returns-in-Parcel-clause-waits g c = record { talks = talks_hearing _ _ _ _ _ _ _ _ (search rules) c.take_parcel.ensures.listens; keeps = search rules; ended = search (rules, book_has_none) }
