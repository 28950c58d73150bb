use Rattle.std.proofs.Common.{inr}
use Rattle.std.proofs.KnownBytes.{Keeps-refl}
use Rattle.program_ends.proofs.WordFacts.{unserved_same}
use Rattle.program_ends.proofs.ending.end_unserved.Goals as goal

pub returns-in-Wrong-clause-kinds : goal.returns-in-Wrong-clause-kinds
returns-in-Wrong-clause-kinds g c kinds h =
    let wrong = unserved_same kinds c.args.why _ h c.in-Wrong.is in
    inr (inr (wrong, (c.as_str-in-Wrong.result.now, Keeps-refl (g.W.Write.contents c.args.output.now), c.say.ensures)))
