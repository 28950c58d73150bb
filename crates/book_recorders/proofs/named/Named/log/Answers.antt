use Rattle.book_recorders.proofs.Between.{logged_if}
use Rattle.book_recorders.proofs.named.Named.log.Goals as goal

pub returns-clause-logged : goal.returns-clause-logged
returns-clause-logged g c = logged_if c.log.result _ c.args.berth.now c.args.event _ c.log.new.berth c.log.ensures.ok c.log.ensures.listed
