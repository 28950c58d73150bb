use Rattle.std.proofs.Common.{◌∙◌}
use Rattle.run_tests.proofs.Fresh.{logs_as_node}
use Rattle.run_tests.proofs.switched_actors.node_task.Goals as goal

-- the book's name is that of its berth, in which nothing is logged
pub invariant_of-result : goal.invariant_of-result
invariant_of-result g c = (
  (c.in_ok-berth.ensures.berth.table ∙ c.in_ok-berth.ensures.table) ∙ c.requires.name,
  logs_as_node c.args.ballots c.args.clients c.args.node _ c.in_ok-berth.ensures.berth.log c.requires.some c.requires.there,
)
