use Rattle.journal_merger.proofs.reading.OwnJournal.go_on_alone.Goals as goal

pub returns-in-Refused-clause-index : goal.returns-in-Refused-clause-index
returns-in-Refused-clause-index g c = c.new.ensures c.offer_next.new.world.sent
