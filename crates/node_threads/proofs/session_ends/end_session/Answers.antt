use Rattle.std.proofs.Common.{rules}
use Rattle.node_threads.proofs.session_ends.end_session.Goals as goal

pub returns-clause-end : goal.returns-clause-end
returns-clause-end g c = record { found = record { actor = search rules; own = search rules }; rests = search rules }
