use Rattle.std.proofs.Common.{◌≡◌, ◌+◌, ◌-◌, ◌≤◌, [], vec_len, vec_capacity}
use Rattle.std.specs.Io.KnownBytes.{prepend_known, Consumes}
use Rattle.line_streams.specs.Streams.{IsPlain, EndsLine}
use Rattle.line_streams.proofs.holding.ReadAhead.read_line.Given as goal

abbrev pub invariant-loop-found : goal.invariant-loop-found
invariant-loop-found g l = record {
  taken : Consumes (prepend_known l.fn.self (g.R.Read.remaining l.fn.reader)) (prepend_known l.self (g.R.Read.remaining l.reader)) l.line.items;
  plain : IsPlain l.line.items;
  few : vec_len l.line ≤ l.limit;
  room : vec_capacity l.fn.line ≤ vec_capacity l.line;
  asks : EndsLine l.limit l.fn.self → (l.self ≡ l.fn.self) × (l.line.items ≡ []) × (l.reader ≡ l.fn.reader);
}

abbrev pub decreases-loop-found : goal.decreases-loop-found
decreases-loop-found g l = l.limit + 1 - vec_len l.line
