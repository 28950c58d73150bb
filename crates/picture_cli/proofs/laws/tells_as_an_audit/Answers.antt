use Rattle.picture_cli.proofs.DrawFacts.{told_as_audited}
use Rattle.picture_cli.proofs.laws.tells_as_an_audit.Goals as goal

pub returns : goal.returns
returns c = told_as_audited
