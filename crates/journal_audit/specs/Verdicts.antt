-- Which verdict on a journal is right, as a relation and as a function, and how it is written.
use Rattle.std.specs.Prelude.{◌≡◌, ◌↔◌, ℕ, ◌+◌, ◌≤◌, List, [], ◌∷◌, ◌++◌, length, Option, Some, None, Result, Ok, Err, codes}
use Rattle.std.specs.Fmt.{decimal}
use Rattle.world_model.specs.declared.events.Event.{Event}
use Rattle.world_model.specs.declared.exact.ExactWorld.{ExactWorld}
use Rattle.world_model.specs.ExactWorlds.{Steps, step, ran}
use Rattle.world_model.specs.Faults.{fault_number}
use Rattle.world_model.specs.StepsOf.{took}
use Rattle.event_lines.specs.declared.faults.LineFault.{LineFault}
use Rattle.event_lines.specs.Events.{event_of, IsSpelling, AreJournal}
use Rattle.event_lines.specs.Faults.{line_fault_number}
use Rattle.line_streams.specs.Streams.{pieces, lines_in}
use Rattle.journal_audit.specs.declared.faults.AuditFault.{AuditFault}
use Rattle.journal_audit.specs.declared.faults.AuditFault.TheVariants as fault
use Rattle.journal_audit.specs.declared.verdicts.Cause.{Cause}
use Rattle.journal_audit.specs.declared.verdicts.Cause.TheVariants as cause
use Rattle.journal_audit.specs.declared.verdicts.TheConstants.{MAX_LINES}
use Rattle.journal_audit.specs.declared.verdicts.Verdict.{Verdict}
use Rattle.journal_audit.specs.declared.verdicts.Verdict.TheVariants.{Sound, Unsound}

-- The lines lead from one world to another: they are the journal of events that are a run, of which
-- none is refused.
abbrev pub Leads : ExactWorld → List (List ℕ) → ExactWorld → Type 0
Leads w lines v = (events : List Event) × AreJournal lines events × (ran events w ≡ took (length events) v)

-- The line doesn't go on with a run that led to this world: it is no event, or one that is refused.
abbrev pub IsUnsound : ExactWorld → List ℕ → Cause → Type 0
IsUnsound v l (cause.Line f) = event_of l ≡ Err f
IsUnsound v l (cause.Refused f) = (e : Event) × IsSpelling l e × (step v e ≡ Err f)

-- The verdict is right. Sound: the lines are so many, and lead somewhere. Unsound: those before this
-- line lead somewhere, and it doesn't go on.
abbrev pub IsVerdict : ExactWorld → List (List ℕ) → Verdict → Type 0
IsVerdict w lines (Sound n) = (n ≡ length lines) × ((v : ExactWorld) × Leads w lines v)
IsVerdict w lines (Unsound number c) =
    (before : List (List ℕ)) × (l : List ℕ) × (behind : List (List ℕ)) × (v : ExactWorld)
    × (lines ≡ before ++ l ∷ behind) × (number ≡ length before + 1) × Leads w before v × IsUnsound v l c

-- As many lines as a journal may have lead somewhere, and another one follows.
abbrev pub IsTooLong : ExactWorld → List (List ℕ) → Type 0
IsTooLong w lines =
    (before : List (List ℕ)) × (l : List ℕ) × (behind : List (List ℕ)) × (v : ExactWorld)
    × (lines ≡ before ++ l ∷ behind) × (length before ≡ MAX_LINES) × Leads w before v

-- The same as a function: each line in turn, where so many were taken.

abbrev pub step_verdict : ℕ → Steps → (ExactWorld → Verdict) → Verdict
step_verdict number (Err f) rest = Unsound number (cause.Refused f)
step_verdict number (Ok s) rest = rest s.world

abbrev pub line_verdict : ExactWorld → ℕ → Result Event LineFault → (ExactWorld → Verdict) → Verdict
line_verdict w number (Err f) rest = Unsound number (cause.Line f)
line_verdict w number (Ok e) rest = step_verdict number (step w e) rest

abbrev pub verdict_behind : ℕ → ExactWorld → List (List ℕ) → Verdict
verdict_behind taken w [] = Sound taken
verdict_behind taken w (l ∷ ls) = line_verdict w (taken + 1) (event_of l) (λ v. verdict_behind (taken + 1) v ls)

unfoldable pub verdict_of : ExactWorld → List (List ℕ) → Verdict
verdict_of w lines = verdict_behind 0 w lines

-- Of any world and any lines just one verdict is right, and it is the one that is computed.
abbrev pub VerdictsAreExact : Type 0
VerdictsAreExact = (w : ExactWorld) (lines : List (List ℕ)) (v : Verdict) → (verdict_of w lines ≡ v) ↔ IsVerdict w lines v

-- The number of the last line that a verdict speaks of.
abbrev pub reaches : Verdict → ℕ
reaches (Sound n) = n
reaches (Unsound number c) = number

-- The lines of a text.
abbrev pub text_lines : List ℕ → List (List ℕ)
text_lines text = lines_in (pieces text)

-- What was found of lines: the verdict that is right, and not of a line behind the greatest number; or
-- that they are too many. Of a read that failed and of want of memory nothing is said.
abbrev pub FindsIn : ExactWorld → List (List ℕ) → Result Verdict AuditFault → Type 0
FindsIn w lines (Ok v) = IsVerdict w lines v × (reaches v ≤ MAX_LINES)
FindsIn w lines (Err fault.Read) = Unit {0}
FindsIn w lines (Err fault.Write) = Unit {0}
FindsIn w lines (Err fault.Memory) = Unit {0}
FindsIn w lines (Err fault.TooManyLines) = IsTooLong w lines

-- the same of a text, where it is known
abbrev pub Finds : ExactWorld → Option (List ℕ) → Result Verdict AuditFault → Type 0
Finds w None r = Unit {0}
Finds w (Some text) r = FindsIn w (text_lines text) r

-- How a verdict is written.

abbrev pub cause_text : Cause → List ℕ
cause_text (cause.Line f) = codes " fault " ++ decimal (line_fault_number f)
cause_text (cause.Refused f) = codes " refused " ++ decimal (fault_number f)

abbrev pub verdict_text : Verdict → List ℕ
verdict_text (Sound n) = codes "sound " ++ decimal n ++ codes "\n"
verdict_text (Unsound number c) = codes "unsound " ++ decimal number ++ cause_text c ++ codes "\n"
