use Rattle.node_threads.proofs.ResumeFacts.{resumed_runs}
use Rattle.node_threads.proofs.laws.resumed_worlds_may_run.Goals as goal

pub returns : goal.returns
returns g = resumed_runs
