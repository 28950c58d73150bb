use Rattle.std.proofs.Common.{OnOk, OnErr, refl, sym, subst, ◌∙◌}
use Rattle.session_files.specs.contracts.records.SessionFile.{the_row}
use Rattle.session_files.specs.declared.records.SessionFile.{SessionFile}
use Rattle.node_batches.specs.Batches.{FindsLast, HasGone}
use Rattle.actor_lives.proofs.node_lives.attend.Goals as goal

pub returns-clause-found : goal.returns-clause-found
returns-clause-found g c =
    subst (λ (m : SessionFile). OnOk c.run_node_in_batches.result (FindsLast c.run_node_in_batches.new.recorder.log m.record.finds))
    (the_row.coded.inj _ _ c.stable-1.given.2.codes ∙ sym (c.stable-2-1.given.1 refl)) c.run_node_in_batches.ensures.found

pub returns-clause-faulted : goal.returns-clause-faulted
returns-clause-faulted g c =
    subst (λ (m : SessionFile). OnErr c.run_node_in_batches.result (HasGone c.args.node c.run_node_in_batches.new.recorder.log m.record.finds (g.L.Link.given c.args.link.now) (g.L.Link.given c.run_node_in_batches.new.link) (g.L.Link.refused c.run_node_in_batches.new.link)))
    (the_row.coded.inj _ _ c.stable-1.given.2.codes ∙ sym (c.stable-2-1.given.1 refl)) c.run_node_in_batches.ensures.kept
