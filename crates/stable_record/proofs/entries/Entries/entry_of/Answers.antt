use Rattle.std.proofs.Common.{◌≡◌, false, sym, ◌∙◌}
use Rattle.lock_model.specs.ExactStations.{knows}
use Rattle.lock_model.proofs.EntryEdits.{unknown-none}
use Rattle.stable_record.proofs.ListFacts.{found-at}
use Rattle.stable_record.proofs.entries.Entries.entry_of.Goals as goal

pub returns-in-Some-clause-found : goal.returns-in-Some-clause-found
returns-in-Some-clause-found c =
    let found = c.in-Some.ensures in
    c.get.ensures.found ∙ found-at c.args.client c.args.self.now c.in-Some.place found.entries.once found.place

pub returns-in-None-clause-found : goal.returns-in-None-clause-found
returns-in-None-clause-found c = sym (unknown-none c.args.self.now c.args.client (sym c.in-None.ensures.known))
