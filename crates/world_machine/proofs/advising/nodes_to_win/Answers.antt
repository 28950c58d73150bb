use Rattle.std.proofs.Common.{◌∙◌}
use Rattle.world_machine.proofs.AdvisingFacts.{won-are}
use Rattle.world_machine.proofs.advising.nodes_to_win.Goals as goal

pub returns : goal.returns
returns g c n = c.won.ensures n ∙ won-are c.args.ballots.now c.args.nodes.now c.args.clients.now c.args.sent.now c.args.want.now c.requires n
