-- That the journal of a history is sound, as statements; each is proved as the contract of a function of
-- `laws`.
use Rattle.std.specs.Prelude.{◌≡◌, ◌≤◌, List, length, map, Some, Result, Ok, Err}
use Rattle.world_model.specs.declared.events.Effect.{Effect}
use Rattle.world_model.specs.declared.events.Event.{Event}
use Rattle.world_model.specs.declared.exact.ExactWorld.{ExactWorld}
use Rattle.event_lines.specs.Events.{event_text}
use Rattle.journal_text.specs.Journals.{history_text, IsRecorded}
use Rattle.journal_audit.specs.declared.faults.AuditFault.{AuditFault}
use Rattle.journal_audit.specs.declared.faults.AuditFault.TheVariants as fault
use Rattle.journal_audit.specs.declared.verdicts.TheConstants.{MAX_LINES}
use Rattle.journal_audit.specs.declared.verdicts.Verdict.{Verdict}
use Rattle.journal_audit.specs.declared.verdicts.Verdict.TheVariants.{Sound}
use Rattle.journal_audit.specs.Verdicts.{IsVerdict, Finds, text_lines}

-- The lines of the journal of a history are the texts of its events, in order.
abbrev pub LinesAreTheEvents : Type 0
LinesAreTheEvents = (w v : ExactWorld) (history : List (Event × Effect)) → IsRecorded w history v → text_lines (history_text history) ≡ map (λ p. event_text p.0) history

-- The right verdict on them is that they are sound, and as many as the events.
abbrev pub JournalsAreSound : Type 0
JournalsAreSound = (w v : ExactWorld) (history : List (Event × Effect)) → IsRecorded w history v → IsVerdict w (text_lines (history_text history)) (Sound (length history))

-- what an audit answers that comes to this verdict, if it comes to any
abbrev pub Answers : Verdict → Result Verdict AuditFault → Type 0
Answers verdict (Ok v) = v ≡ verdict
Answers verdict (Err fault.Read) = Unit {0}
Answers verdict (Err fault.Write) = Unit {0}
Answers verdict (Err fault.Memory) = Unit {0}
Answers verdict (Err fault.TooManyLines) = ⊥

-- So an audit from the same world finds it sound, if it comes to a verdict; and a history that isn't too
-- long has no journal that is.
abbrev pub JournalsAreFoundSound : Type 0
JournalsAreFoundSound = (w v : ExactWorld) (history : List (Event × Effect)) → IsRecorded w history v → length history ≤ MAX_LINES →
    (found : Result Verdict AuditFault) → Finds w (Some (history_text history)) found → Answers (Sound (length history)) found
