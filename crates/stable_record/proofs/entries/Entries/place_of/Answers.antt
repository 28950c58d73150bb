use Rattle.std.proofs.Common.{sym}
use Rattle.stable_record.proofs.ListFacts.{known-at}
use Rattle.stable_record.proofs.entries.Entries.place_of.Goals as goal

pub returns-in-Some-clause-known : goal.returns-in-Some-clause-known
returns-in-Some-clause-known c = sym (known-at c.args.client c.args.self.now c.in-Some.place c.in-Some.ensures)
