use Rattle.std.proofs.Common.{◌≡◌, ◌+◌, ◌≤◌, ◌++◌, List, ℕ, length}
use Rattle.std.specs.Io.KnownBytes.{Appends}
use Rattle.line_streams.specs.Streams.{Grows, with_gathered}
use Rattle.line_streams.specs.declared.writing.TheConstants.{MAX_GATHERED}
use Rattle.line_streams.proofs.writing.Gathered.put.Given as goal

-- A front of the text was written or is gathered, and the rest is left. A text that fits is gathered, and
-- the writer isn't asked.
abbrev pub invariant-loop-rest : goal.invariant-loop-rest
invariant-loop-rest g l = record {
  front : (front : List ℕ) × (l.text ≡ front ++ l.rest) × Appends (with_gathered (g.W.Write.contents l.fn.writer) l.fn.self) (with_gathered (g.W.Write.contents l.writer) l.self) front;
  grown : Grows (g.W.Write.contents l.fn.writer) (g.W.Write.contents l.writer);
  quiet : length l.fn.self + length l.text ≤ MAX_GATHERED → (l.writer ≡ l.fn.writer) × (l.self ++ l.rest ≡ l.fn.self ++ l.text);
}

abbrev pub decreases-loop-rest : goal.decreases-loop-rest
decreases-loop-rest g l = length l.rest
