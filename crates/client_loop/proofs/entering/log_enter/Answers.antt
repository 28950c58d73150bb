use Rattle.std.proofs.Common.{refl, rules}
use Rattle.client_loop.proofs.BeginFacts.{entering_begins}
use Rattle.client_loop.proofs.Logs.{visits-adds}
use Rattle.client_loop.proofs.EnterFacts.{enter_allowed, enter_stands}
use Rattle.client_loop.proofs.SentFacts.{enter_sends_nothing}
use Rattle.client_loop.proofs.entering.log_enter.Goals as goal

pub log_plain-requires-clause-allowed : goal.log_plain-requires-clause-allowed
log_plain-requires-clause-allowed g c = enter_allowed _ _ c.args.core.now c.client.result c.requires.may c.requires.stands

pub returns-clause-entered : goal.returns-clause-entered
returns-clause-entered g c =
    let logged = c.in_ok-log_plain.ensures.logged in
    record { visits = visits-adds _ _ _ _ logged; may = c.requires.may; ticket = refl; inside = enter_stands _ _ _ c.args.core.now _ _ c.requires.may c.requires.stands logged }

pub returns-clause-still : goal.returns-clause-still
returns-clause-still g c = record { silent = search (rules, enter_sends_nothing); begins = entering_begins _ _ (visits-adds _ _ _ _ c.in_ok-log_plain.ensures.logged); falls = search rules }
