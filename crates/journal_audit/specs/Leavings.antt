-- What an audit has taken of its input, and so what it leaves there.
use Rattle.std.specs.Prelude.{◌≡◌, ◌⊎◌, ℕ, ◌+◌, ◌<◌, ◌≤◌, true, List, [], ◌++◌, length, Option, Some, None, Result, Ok, Err, IsOk}
use Rattle.std.specs.List.{All}
use Rattle.std.specs.Io.KnownBytes.{Consumes}
use Rattle.world_model.specs.declared.events.Event.{Event}
use Rattle.world_model.specs.declared.exact.ExactWorld.{ExactWorld}
use Rattle.world_model.specs.ExactWorlds.{step}
use Rattle.world_model.specs.StepsOf.{asks_for_memory}
use Rattle.event_lines.specs.Events.{IsSpelling}
use Rattle.event_lines.specs.declared.words.TheConstants.{MAX_LINE_LEN}
use Rattle.line_streams.specs.declared.reading.End.{End}
use Rattle.line_streams.specs.declared.reading.End.TheVariants.{LineFeed, Input, Limit}
use Rattle.line_streams.specs.Streams.{IsPlain, KnownLeft, HasMore, feed_of, fed_lines}
use Rattle.journal_audit.specs.declared.faults.AuditFault.{AuditFault}
use Rattle.journal_audit.specs.declared.faults.AuditFault.TheVariants as fault
use Rattle.journal_audit.specs.declared.verdicts.TheConstants.{MAX_LINES}
use Rattle.journal_audit.specs.declared.verdicts.Verdict.{Verdict}
use Rattle.journal_audit.specs.declared.verdicts.Verdict.TheVariants.{Sound, Unsound}
use Rattle.journal_audit.specs.Verdicts.{Leads}

-- none of a text is left, where it was known
abbrev pub HasEnded : Option (List ℕ) → Option (List ℕ) → Type 0
HasEnded None left = Unit {0}
HasEnded (Some text) left = KnownLeft left (λ ys. ys ≡ [])

-- What was taken of a line: all of it, and the line feed behind it or, with no line feed, what there was up to
-- the end; or, of one that is too long, as many bytes as show it.
abbrev pub IsTaken : Option (List ℕ) → Option (List ℕ) → List ℕ → End → Type 0
IsTaken text left line LineFeed = length line ≤ MAX_LINE_LEN
IsTaken text left line Input = (length line ≤ MAX_LINE_LEN) × HasEnded text left
IsTaken text left line Limit = length line ≡ MAX_LINE_LEN + 1

-- Of a text were taken: so many lines, each with its line feed, which lead from this world to some other;
-- then these bytes of one line, and what stood behind them; and nothing else. The rest is left.
pub record Takes (w : ExactWorld) (text left : Option (List ℕ)) (count : ℕ) (line behind : List ℕ) : Type 0 where
  pub before : List (List ℕ)
  pub counted : length before ≡ count
  pub are_lines : All IsPlain before
  pub world : ExactWorld
  pub leads : Leads w before world
  pub is_line : IsPlain line
  pub taken : Consumes text left (fed_lines before ++ (line ++ behind))

-- What is left of a text where a verdict is found: nothing of one that is sound, and else what stands behind
-- what was taken of the line that doesn't go on.
abbrev pub LeavesBy : ExactWorld → Option (List ℕ) → Option (List ℕ) → Verdict → Type 0
LeavesBy w text left (Sound n) = HasEnded text left
LeavesBy w text left (Unsound number c) =
    (count : ℕ) × (line : List ℕ) × (end : End) × (number ≡ count + 1) × IsTaken text left line end × Takes w text left count line (feed_of end)

-- The line goes on with a run that led to this world, by an event for which memory is asked.
abbrev pub GoesOnAsking : ExactWorld → List ℕ → Type 0
GoesOnAsking v line = (e : Event) × IsSpelling line e × (asks_for_memory e ≡ true) × IsOk (step v e)

-- Such a line was taken whole, behind as many as there may be before it.
abbrev pub TakesAsking : ExactWorld → Option (List ℕ) → Option (List ℕ) → ℕ → List ℕ → Type 0
TakesAsking w text left count line =
    (end : End) × (count < MAX_LINES) × IsTaken text left line end × (t : Takes w text left count line (feed_of end)) × GoesOnAsking t.world line

-- Lines were taken that lead somewhere, and then some bytes of a line, with more behind them.
abbrev pub TakesSome : ExactWorld → Option (List ℕ) → Option (List ℕ) → ℕ → List ℕ → Type 0
TakesSome w text left count line = Takes w text left count line [] × HasMore left

-- The same where no verdict is found: the lines that were taken lead somewhere. Behind them some bytes of a
-- line that is no longer than one may be were taken, and no line feed; or, where there are too many lines, the
-- one that is too many. Where memory was refused, nothing was taken at all, or there is more of the line of
-- which some bytes were, or a whole line was taken, which goes on.
abbrev pub Leaves : ExactWorld → Option (List ℕ) → Option (List ℕ) → Result Verdict AuditFault → Type 0
Leaves w text left (Ok v) = LeavesBy w text left v
Leaves w text left (Err fault.Read) = (count : ℕ) × (line : List ℕ) × (length line ≤ MAX_LINE_LEN) × Takes w text left count line []
Leaves w text left (Err fault.Write) = (v : Verdict) × LeavesBy w text left v
Leaves w text left (Err fault.Memory) = (left ≡ text) ⊎ ((count : ℕ) × (line : List ℕ) × (length line ≤ MAX_LINE_LEN) × (TakesSome w text left count line ⊎ TakesAsking w text left count line))
Leaves w text left (Err fault.TooManyLines) = (line : List ℕ) × (end : End) × IsTaken text left line end × Takes w text left MAX_LINES line (feed_of end)
