use Rattle.std.proofs.Common.{sym, ap, replicate, ◌∙◌}
use Rattle.lock_model.specs.declared.problems.Problem.{Problem}
use Rattle.lock_model.specs.declared.problems.Problem.TheVariants.{First, Second}
use Rattle.run_service.specs.Empty.{empty_node}
use Rattle.run_service.proofs.ListFacts.{first_ones}
use Rattle.run_service.proofs.records.of_nodes.Goals as goal

pub returns-in-First : goal.returns-in-First
returns-in-First g c = first_ones _ _ _ (empty_node First) c.args.nodes _ c.front.ensures c.requires.first c.requires.few ∙ ap (λ (p : Problem). replicate c.args.nodes (empty_node p)) (sym c.in-First.is)

pub returns-in-Second : goal.returns-in-Second
returns-in-Second g c = first_ones _ _ _ (empty_node Second) c.args.nodes _ c.front-in-Second.ensures c.requires.second c.requires.few ∙ ap (λ (p : Problem). replicate c.args.nodes (empty_node p)) (sym c.in-Second.is)
