use Rattle.std.proofs.Common.{rules, subst}
use Rattle.world_model.specs.declared.exact.ExactWorld.{ExactWorld}
use Rattle.node_threads.specs.Faults.{AreFaults}
use Rattle.node_threads.specs.Wishes.{AllDidAsWished}
use Rattle.run_service.proofs.ReadyFacts.{may_run, theirs}
use Rattle.run_service.proofs.serving.run.Goals as goal

pub run_all-requires-clause-may : goal.run_all-requires-clause-may
run_all-requires-clause-may g c κs within =
    may_run c.args.settings.now c.in-Ok.world c.nodes-nodes.result _ _ c.in-Ok.ensures c.nodes-nodes.ensures.nodes c.chosen-pairs.ensures.count c.in-Ok-chosen_records.ensures

pub run_all-requires-clause-theirs : goal.run_all-requires-clause-theirs
run_all-requires-clause-theirs g c κs within = theirs c.args.settings.now c.in-Ok.world c.args.wishes.now c.in-Ok.ensures c.requires.wishes

pub returns-clause-end : goal.returns-clause-end
returns-clause-end g c = record {
  history = search rules;
  run = search rules;
  exclusive = search rules;
  faults = subst (λ (w : ExactWorld). AreFaults w c.in-Ok-run_all.end.faults.items) c.in-Ok.ensures c.in-Ok-run_all.ensures.faults;
  wished = subst (λ (w : ExactWorld). AllDidAsWished w c.in-Ok-run_all.end.book.history c.args.wishes.now c.in-Ok-run_all.end.faults.items) c.in-Ok.ensures c.in-Ok-run_all.ensures.wished;
}
