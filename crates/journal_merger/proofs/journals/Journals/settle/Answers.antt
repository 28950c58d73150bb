use Rattle.journal_merger.proofs.journals.Journals.settle.Goals as goal

pub loop-init : goal.loop-init
loop-init g c = c.new-numbers.ensures c.args.world.now.sent
