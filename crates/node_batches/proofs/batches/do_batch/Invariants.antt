use Rattle.actor_steps.specs.Sendings.{sent_of}
use Rattle.node_batches.proofs.batches.do_batch.Given as goal

-- what was sent before the batch
abbrev pub ghosts-work_off : goal.ghosts-work_off
ghosts-work_off g a = record { sent = sent_of a.recorder.now.log }
