-- What a watcher hears of the lines of a journal.
use Rattle.std.specs.Prelude.{◌≡◌, ℕ, List, [], ◌∷◌, ◌++◌, Option, Some, None, Result, Ok, Err}
use Rattle.world_model.specs.declared.events.Effect.{Effect}
use Rattle.world_model.specs.declared.events.Event.{Event}
use Rattle.world_model.specs.declared.events.StepFault.{StepFault}
use Rattle.world_model.specs.declared.exact.ExactWorld.{ExactWorld}
use Rattle.world_model.specs.ExactWorlds.{Steps, step}
use Rattle.event_lines.specs.declared.faults.LineFault.{LineFault}
use Rattle.event_lines.specs.declared.lines.Query.{Query}
use Rattle.event_lines.specs.Events.{event_of}
use Rattle.journal_audit.specs.declared.faults.AuditFault.{AuditFault}
use Rattle.journal_audit.specs.declared.verdicts.Verdict.{Verdict}
use Rattle.journal_audit.specs.declared.verdicts.Verdict.TheVariants.{Sound, Unsound}
use Rattle.journal_audit.specs.Verdicts.{text_lines}

-- What a line came to: an event was taken with an effect, or refused; a query was answered, or refused; it is
-- neither; or no line is left, and there were so many.
pub data Word : Type 0 where
  Happened : (e : Event) (came : Result Effect StepFault) → Word
  Asked : (q : Query) (came : Result (Unit {0}) StepFault) → Word
  Bad : (f : LineFault) → Word
  Over : (lines : ℕ) → Word

-- what was heard, where it is known, and this behind it
abbrev pub with_words : List Word → Option (List Word) → Option (List Word)
with_words words None = None
with_words words (Some heard) = Some (heard ++ words)

-- Of the lines of a journal: of each what it came to, up to the first that doesn't go on.

abbrev pub step_words : Event → Steps → (ExactWorld → List Word) → List Word
step_words e (Err f) rest = Happened e (Err f) ∷ []
step_words e (Ok s) rest = Happened e (Ok s.effect) ∷ rest s.world

abbrev pub line_words : ExactWorld → Result Event LineFault → (ExactWorld → List Word) → List Word
line_words w (Err f) rest = Bad f ∷ []
line_words w (Ok e) rest = step_words e (step w e) rest

abbrev pub words_of : ExactWorld → List (List ℕ) → List Word
words_of w [] = []
words_of w (l ∷ ls) = line_words w (event_of l) (λ v. words_of v ls)

-- and behind them, of a sound journal, how many they are
abbrev pub end_words : Verdict → List Word
end_words (Sound n) = Over n ∷ []
end_words (Unsound number c) = []

-- This was heard of each line, and nothing else; so where the text is known, and a verdict is found.
abbrev pub HearsLines : ExactWorld → Option (List ℕ) → Option (List Word) → Option (List Word) → Result Verdict AuditFault → Type 0
HearsLines w None old new r = Unit {0}
HearsLines w (Some text) old new (Err e) = Unit {0}
HearsLines w (Some text) old new (Ok v) = new ≡ with_words (words_of w (text_lines text)) old

-- the same, and then of the end
abbrev pub Hears : ExactWorld → Option (List ℕ) → Option (List Word) → Option (List Word) → Result Verdict AuditFault → Type 0
Hears w None old new r = Unit {0}
Hears w (Some text) old new (Err e) = Unit {0}
Hears w (Some text) old new (Ok v) = new ≡ with_words (words_of w (text_lines text) ++ end_words v) old
