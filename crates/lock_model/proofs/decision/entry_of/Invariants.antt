use Rattle.std.proofs.Common.{◌≡◌, drop}
use Rattle.lock_model.specs.ExactStations.{entry_of}
use Rattle.lock_model.proofs.decision.entry_of.Given as goal

-- none of the entries so far is the client's
abbrev pub invariant-loop-entry : goal.invariant-loop-entry
invariant-loop-entry l = entry_of (drop l.entry-index l.entries) l.client ≡ entry_of l.entries l.client
