use Rattle.file_session_tests.proofs.Ready.{may_go_on}
use Rattle.file_session_tests.proofs.going_on.serve.Goals as goal

pub with_sessions-requires-clause-may : goal.with_sessions-requires-clause-may
with_sessions-requires-clause-may g c κs within =
    may_go_on c.resumed_worlds_may_run.ensures c.args.ballots c.args.of_nodes.now c.args.of_clients.now c.in_ok-world.world _ _ _ c.in_ok-world.ensures c.requires.node c.in_ok-pairs.ensures c.requires.nodes c.requires.clients
