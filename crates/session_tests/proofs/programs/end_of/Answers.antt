use Rattle.session_tests.proofs.Ready.{may_begin, both}
use Rattle.session_tests.proofs.programs.end_of.Goals as goal

pub with_sessions-requires-clause-may : goal.with_sessions-requires-clause-may
with_sessions-requires-clause-may g c κs within =
    may_begin c.args.ballots c.in_ok-world.world _ _ c.in_ok-world.ensures c.in_ok-pairs.ensures (both _ _ _ _ c.in_ok-of_nodes.ensures c.in_ok-of_clients.ensures)
