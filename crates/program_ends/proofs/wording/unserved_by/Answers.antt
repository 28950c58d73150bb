use Rattle.program_ends.proofs.WordFacts.{unserved_so}
use Rattle.program_ends.proofs.wording.unserved_by.Goals as goal

pub returns : goal.returns
returns c = unserved_so c.args.error.now c.said_of.result c.said_of.ensures
