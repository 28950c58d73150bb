-- What an audit answers and writes.
use Rattle.std.specs.Prelude.{◌≡◌, ℕ, nat_le, if◌then◌else◌, List, Option, Some, None, Result, Ok, Err}
use Rattle.std.specs.Io.KnownBytes.{Appends}
use Rattle.world_model.specs.declared.exact.ExactWorld.{ExactWorld}
use Rattle.line_streams.specs.Streams.{AppendsPart}
use Rattle.journal_audit.specs.declared.faults.AuditFault.{AuditFault}
use Rattle.journal_audit.specs.declared.faults.AuditFault.TheVariants as fault
use Rattle.journal_audit.specs.declared.verdicts.TheConstants.{MAX_LINES}
use Rattle.journal_audit.specs.declared.verdicts.Verdict.{Verdict}
use Rattle.journal_audit.specs.Verdicts.{verdict_of, verdict_text, reaches, text_lines}

-- The verdict, unless it speaks of a line behind the greatest number.
abbrev pub within_limit : Verdict → Result Verdict AuditFault
within_limit v = if nat_le (reaches v) MAX_LINES then Ok v else Err fault.TooManyLines

abbrev pub found_in : ExactWorld → List (List ℕ) → Result Verdict AuditFault
found_in w lines = within_limit (verdict_of w lines)

-- this is what is found of a text, where it is known
abbrev pub IsFound : ExactWorld → Option (List ℕ) → Result Verdict AuditFault → Type 0
IsFound w None r = Unit {0}
IsFound w (Some text) r = found_in w (text_lines text) ≡ r

-- What an audit did with what was left of the input and what was written: it answers what is found, and
-- wrote the verdict's line. Where writing failed a beginning of it was written, and not all, else after a
-- fault nothing.
abbrev pub Audits : ExactWorld → Option (List ℕ) → Option (List ℕ) → Option (List ℕ) → Result Verdict AuditFault → Type 0
Audits w left old new (Ok v) = IsFound w left (Ok v) × Appends old new (verdict_text v)
Audits w left old new (Err fault.Read) = new ≡ old
Audits w left old new (Err fault.Write) = (v : Verdict) × IsFound w left (Ok v) × AppendsPart old new (verdict_text v)
Audits w left old new (Err fault.Memory) = new ≡ old
Audits w left old new (Err fault.TooManyLines) = IsFound w left (Err fault.TooManyLines) × (new ≡ old)
