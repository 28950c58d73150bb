use Rattle.journal_audit.proofs.VerdictLaws.{verdicts_exact}
use Rattle.journal_audit.proofs.laws.verdicts_are_exact.Goals as goal

pub returns : goal.returns
returns c = verdicts_exact c.events_are_spelled_once.ensures
