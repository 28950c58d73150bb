use Rattle.node_batches.proofs.RunFacts.{not_risen, kept_either}
use Rattle.node_batches.proofs.running.live.Goals as goal

pub returns-in_err-desk-clause-kept : goal.returns-in_err-desk-clause-kept
returns-in_err-desk-clause-kept g c = not_risen _ _ _ _ _ _ _ c.requires.1 c.open_desk.ensures.only c.open_desk.ensures.opened

pub returns-clause-kept : goal.returns-clause-kept
returns-clause-kept g c =
    kept_either c.serve_batches.result c.open_desk.new.recorder.log c.serve_batches.new.recorder.log c.serve_batches.new.desk.core c.serve_batches.new.desk.copy _ _ _ _ c.in_ok-desk.ensures.silent c.serve_batches.ensures.rests c.serve_batches.ensures.sent c.serve_batches.ensures.kept
