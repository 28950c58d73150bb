-- What the pieces of an audit do, from which whoever takes a journal's lines may make another one. Who reads
-- what `audit` promises has no need of them.
use Rattle.std.specs.Prelude.{◌≡◌, ℕ, ◌≤◌, List, [], ◌∷◌, ◌++◌, length, Option, Some, None, Result, Ok, Err}
use Rattle.std.specs.Io.KnownBytes.{Consumes}
use Rattle.event_lines.specs.declared.words.TheConstants.{MAX_LINE_LEN}
use Rattle.line_streams.specs.declared.reading.End.{End}
use Rattle.line_streams.specs.Streams.{IsPlain, HasMore, feed_of}
use Rattle.journal_audit.specs.declared.faults.AuditFault.{AuditFault}
use Rattle.journal_audit.specs.declared.faults.AuditFault.TheVariants as fault
use Rattle.journal_audit.specs.declared.verdicts.TheConstants.{MAX_LINES}
use Rattle.journal_audit.specs.declared.verdicts.Verdict.{Verdict}
use Rattle.journal_audit.specs.declared.verdicts.Verdict.TheVariants.{Sound}
use Rattle.journal_audit.specs.Leavings.{HasEnded, IsTaken}
use Rattle.journal_audit.specs.Verdicts.{text_lines}

-- the faults that cut an audit short
abbrev pub CutsShort : AuditFault → Type 0
CutsShort fault.Read = Unit {0}
CutsShort fault.Write = ⊥
CutsShort fault.Memory = Unit {0}
CutsShort fault.TooManyLines = ⊥

-- how a call ended that looks for one line more than there may be
abbrev pub EndsIn : List (List ℕ) → Result Verdict AuditFault → Type 0
EndsIn lines (Ok v) = (v ≡ Sound MAX_LINES) × (lines ≡ [])
EndsIn lines (Err fault.Read) = Unit {0}
EndsIn lines (Err fault.Write) = ⊥
EndsIn lines (Err fault.Memory) = Unit {0}
EndsIn lines (Err fault.TooManyLines) = (l : List ℕ) × (behind : List (List ℕ)) × (lines ≡ l ∷ behind)

abbrev pub EndsLines : Option (List ℕ) → Result Verdict AuditFault → Type 0
EndsLines None r = Unit {0}
EndsLines (Some text) r = EndsIn (text_lines text) r

-- Some bytes of a line were taken, which is no longer than one may be.
abbrev pub TakesPart : Option (List ℕ) → Option (List ℕ) → Type 0
TakesPart text left = (line : List ℕ) × (length line ≤ MAX_LINE_LEN) × IsPlain line × Consumes text left line

-- What such a call took: the end of the text, or a line, or a part of one, of which there is more where memory
-- was refused.
abbrev pub TakesLast : Option (List ℕ) → Option (List ℕ) → Result Verdict AuditFault → Type 0
TakesLast text left (Ok v) = HasEnded text left
TakesLast text left (Err fault.Read) = TakesPart text left
TakesLast text left (Err fault.Write) = Unit {0}
TakesLast text left (Err fault.Memory) = TakesPart text left × HasMore left
TakesLast text left (Err fault.TooManyLines) = (line : List ℕ) × (end : End) × IsTaken text left line end × IsPlain line × Consumes text left (line ++ feed_of end)
