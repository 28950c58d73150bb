use Rattle.std.proofs.lemmas.Result.{err_from_is_err_and}
use Rattle.node_loop.proofs.TurnFacts.{turns_after}
use Rattle.node_loop.proofs.running.serve.Goals as goal

pub loop-preserved : goal.loop-preserved
loop-preserved g c = turns_after _ _ _ _ c.loop.invariant.goes c.loop.invariant.taken.sent (rw c.receive.ensures.given at c.in_ok-attend.ensures.turns)

pub returns-in_err-attend-clause-turns : goal.returns-in_err-attend-clause-turns
returns-in_err-attend-clause-turns g c =
    let p = err_from_is_err_and c.from_residual.result c.from_residual.ensures.1 in
    rw (p.1, p.2) (turns_after _ _ _ _ c.loop.invariant.goes c.loop.invariant.taken.sent (rw c.receive.ensures.given at c.in_err-attend.ensures.turns))
