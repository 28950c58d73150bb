use Rattle.std.proofs.Common.{◌≡◌, [], Ok}
use Rattle.stable_record.specs.Reading.{entries_at}
use Rattle.stable_record.proofs.reading.Unread.entries.Given as goal

abbrev pub invariant-loop : goal.invariant-loop
invariant-loop l = entries_at l.counter [] l.fn.self.bytes.now ≡ Ok (l.entries, l.self.bytes.now)
