use Rattle.std.proofs.Common.{◌∙◌}
use Rattle.operator_cli.proofs.OpeningFacts.{begins_down}
use Rattle.operator_cli.proofs.raising.raise_all.Goals as goal

pub raise_nodes-requires : goal.raise_nodes-requires
raise_nodes-requires g c = c.requires.opening ∙ begins_down c.args.settings.now
