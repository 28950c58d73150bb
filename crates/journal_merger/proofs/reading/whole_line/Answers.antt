use Rattle.std.proofs.Common.{refl, sym, subst}
use Rattle.journal_merger.specs.Pendings.{IsNoText}
use Rattle.journal_merger.proofs.PendingFacts.{only-text, no-text}
use Rattle.journal_merger.proofs.reading.whole_line.Goals as goal

pub returns-in-Ok-clause-line : goal.returns-in-Ok-clause-line
returns-in-Ok-clause-line g = (g.in-Ok.line, refl, only-text g.args.bytes.now g.in-Ok.line (rw g.in-Ok.is at g.read_own_line.ensures))

pub returns-in-Err-clause-fault : goal.returns-in-Err-clause-fault
returns-in-Err-clause-fault g = subst (IsNoText g.args.bytes.now) (sym g.no_text.ensures) (no-text g.args.bytes.now g.in-Err.fault (rw g.in-Err.is at g.read_own_line.ensures))
