use Rattle.std.proofs.Common.{inl, rules}
use Rattle.std.proofs.lemmas.Result.{err_from_is_err_and}
use Rattle.lock_session.proofs.SoonFacts.{enters_then, ends_then}
use Rattle.lock_session.proofs.sessions.Session.come_in_soon.Goals as goal

pub returns-in_err-come_in-2-clause-ended : goal.returns-in_err-come_in-2-clause-ended
returns-in_err-come_in-2-clause-ended g c =
    let p = err_from_is_err_and c.from_residual-in_err-come_in-2.result c.from_residual-in_err-come_in-2.ensures.1 in
    rw (p.1, p.2) (ends_then _ _ _ _ _ _ (c.in_ok-come_in.ensures.back cc) c.in_err-come_in-2.ensures.ended)

pub returns-clause-entered : goal.returns-clause-entered
returns-clause-entered g c = enters_then _ _ _ _ _ (c.in_ok-come_in.ensures.back cc) (c.in_ok-come_in-2.ensures.entered cc)

pub returns-in_err-come_in-2-clause-noted : goal.returns-in_err-come_in-2-clause-noted
returns-in_err-come_in-2-clause-noted g c = inl (record { between = c.come_in.new.self; alone = search rules; let_wait = c.in_ok-come_in.ensures.back cc; in_turn = search rules })
