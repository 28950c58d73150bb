use Rattle.node_loop.proofs.KeepFacts.{fails_and_goes}
use Rattle.node_loop.proofs.attending.keep.Goals as goal

-- the keep failed, and then the node fell

pub returns-in_err-restart-in-Failed-clause-goes : goal.returns-in_err-restart-in-Failed-clause-goes
returns-in_err-restart-in-Failed-clause-goes g c = fails_and_goes _ _ _ _ _ _ _ _ (c.in_ok-keep_next.ensures.failed cc).tried c.keep_next.ensures.falls (c.in_ok-keep_next.ensures.failed cc).counted c.restart.ensures.goes

pub returns-clause-goes : goal.returns-clause-goes
returns-clause-goes g c = fails_and_goes _ _ _ _ _ _ _ _ (c.in_ok-keep_next.ensures.failed cc).tried c.keep_next.ensures.falls (c.in_ok-keep_next.ensures.failed cc).counted c.restart.ensures.goes
