use Rattle.std.proofs.Common.{rules}
use Rattle.client_loop.proofs.Logs.{visits-adds}
use Rattle.client_loop.proofs.SentFacts.{leave_sends_nothing}
use Rattle.client_loop.proofs.leaving.log_leave.Goals as goal

pub returns-clause-still : goal.returns-clause-still
returns-clause-still g c = record { silent = search (rules, leave_sends_nothing); quiet = record { visits = visits-adds _ _ _ _ c.in_ok-log_plain.ensures.logged; falls = search rules } }
