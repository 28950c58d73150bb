use Rattle.std.proofs.Common.{refl}
use Rattle.std.proofs.lemmas.Result.{err_from_is_err_and}
use Rattle.client_loop.proofs.SentFacts.{unless_none, unless_on, unless_both}
use Rattle.client_loop.proofs.entering.ask_and_enter.Goals as goal

pub returns-in_err-log_enter-in-Ok-true-clause-sent : goal.returns-in_err-log_enter-in-Ok-true-clause-sent
returns-in_err-log_enter-in-Ok-true-clause-sent g c =
    let p = err_from_is_err_and c.from_residual.result c.from_residual.ensures.1 in
    rw (p.1, p.2) (record { all = tt; faulted = unless_on _ _ _ _ _ _ _ c.in-Ok-true.ensures.talks.sent.all (unless_none _ _ _ _ _ c.log_enter.ensures.still.silent refl) })

pub returns-in-Err-clause-sent : goal.returns-in-Err-clause-sent
returns-in-Err-clause-sent g c = record { all = tt; faulted = unless_both c.in-Err.fault c.end.result _ _ _ _ _ _ c.end.ensures.memory c.in-Err.ensures.talks.sent.faulted c.end.ensures.faulted }
