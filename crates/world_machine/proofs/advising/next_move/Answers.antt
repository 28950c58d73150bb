use Rattle.std.proofs.Common.{◌∙◌}
use Rattle.vote_weights.specs.Sets.{has_node}
use Rattle.world_machine.proofs.AdvisingFacts.{nexts}
use Rattle.world_machine.proofs.advising.next_move.Goals as goal

pub returns : goal.returns
returns g c = c.first_move.ensures ∙ nexts c.args.ballots.now c.args.nodes.now c.args.clients.now c.args.sent.now (has_node c.args.chosen) c.args.want.now c.requires
