use Rattle.std.proofs.Common.{arith}
use Rattle.voter_core.proofs.FreedFacts.{waiting-few}
use Rattle.voter_core.proofs.deciding.room_for.Goals as goal

pub overflow_add-waiting_for : goal.overflow_add-waiting_for
overflow_add-waiting_for c = omega (arith, c.waiting_for.ensures c.requires.0 c.requires.1, waiting-few c.args.freed c.requires.0, c.requires.2)
