use Rattle.book_recorders.proofs.MeetingFacts.{shown_if, unshown_if}
use Rattle.book_recorders.proofs.named.Named.inside.Goals as goal

pub returns-clause-shown : goal.returns-clause-shown
returns-clause-shown g c = shown_if c.inside.result _ c.args.berth.now c.args.resource.now c.inside.new.berth c.inside.ensures.ok

pub returns-clause-unshown : goal.returns-clause-unshown
returns-clause-unshown g c = unshown_if c.inside.result _ c.args.berth.now c.inside.new.berth c.inside.ensures.err
