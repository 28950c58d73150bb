use Rattle.own_journals.proofs.LifeFacts.{whole-read}
use Rattle.own_journals.proofs.lines.read_own_line.Goals as goal

pub returns-in-Ok : goal.returns-in-Ok
returns-in-Ok c = whole-read c.args.line.now c.in-Ok.read (rw c.in-Ok.is at c.read_whole.ensures)
