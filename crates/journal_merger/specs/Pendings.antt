-- The journals of actors, read line by line, and what is left of them.
use Rattle.std.specs.Prelude.{◌≡◌, ◌==◌, ◌⊎◌, ◌<◌, ℕ, ◌+◌, ◌-◌, ◌^◌, min, length, not, Bool, true, false, List, [], ◌∷◌, ◌++◌, Option, Some, None, slice_get}
use Rattle.lock_messages.specs.declared.ids.Actor.{Actor}
use Rattle.line_streams.specs.Streams.{pieces, KnownLeft}
use Rattle.own_journals.specs.declared.faults.OwnLineFault.{OwnLineFault}
use Rattle.own_journals.specs.declared.faults.OwnLineFault.TheVariants as line_fault
use Rattle.own_journals.specs.declared.lines.OwnLine.{OwnLine}
use Rattle.own_journals.specs.declared.lines.OwnLine.TheVariants as own
use Rattle.own_journals.specs.OwnLines.{IsText}
use Rattle.world_model.specs.ExactWorlds.{actor_of}
use Rattle.world_model.specs.Parts.{place}
use Rattle.world_model.specs.declared.events.Event.{Event}
use Rattle.world_model.specs.declared.events.Event.TheVariants as event
use Rattle.event_lines.specs.Events.{event_text}
use Rattle.journal_merge.specs.LineMerges.{Journals}
use Rattle.line_merger.specs.declared.offers.Refusal.{Refusal}
use Rattle.line_merger.specs.declared.offers.Taken.{Taken}
use Rattle.line_merger.specs.declared.offers.Taken.TheVariants as taken
use Rattle.line_merger.specs.Offers.{said_in}
use Rattle.line_merger.specs.Reasons.{reading_by}
use Rattle.journal_merger.specs.declared.faults.JournalsFault.{JournalsFault}
use Rattle.journal_merger.specs.declared.faults.JournalsFault.TheVariants as fault
use Rattle.journal_merger.specs.declared.journals.LineLeft.{LineLeft}
use Rattle.journal_merger.specs.declared.reading.TheConstants.{MAX_OWN_LINE_LEN}

-- The lines of a text: what is before each line feed. What is after the last line feed was cut off, and counts for nothing.
abbrev pub whole_lines : List (List ℕ) → List (List ℕ)
whole_lines [] = []
whole_lines (p ∷ []) = []
whole_lines (p ∷ q ∷ qs) = p ∷ whole_lines (q ∷ qs)

-- These are the texts of these lines.
abbrev pub AreTexts : List (List ℕ) → List OwnLine → Type 0
AreTexts [] lines = lines ≡ []
AreTexts (p ∷ ps) lines = (l : OwnLine) × (more : List OwnLine) × (lines ≡ l ∷ more) × IsText p l × AreTexts ps more

-- A text has these lines. Of a text that is not known, `unknown` says it.
abbrev pub HasLines : Type 0 → Option (List ℕ) → List OwnLine → Type 0
HasLines unknown None lines = unknown
HasLines unknown (Some text) lines = AreTexts (whole_lines (pieces text)) lines

-- what is left of an actor's journal: the next line, if there is one, how many lines were read with it, the text after it, and
-- why its actor refuses the next line, if that was found
pub record Pending : Type 0 where
  pub who : Actor
  pub number : ℕ
  pub next : Option OwnLine
  pub rest : Option (List ℕ)
  pub refusal : Option Refusal

abbrev pub IsLeft : Type 0 → Option OwnLine → Option (List ℕ) → List OwnLine → Type 0
IsLeft unknown None rest lines = lines ≡ []
IsLeft unknown (Some l) rest lines = (more : List OwnLine) × (lines ≡ l ∷ more) × HasLines unknown rest more

-- These lines are left of each actor's journal. An actor that has no journal has none.
pub record AreLeft (unknown : Type 0) (pending : List Pending) (left : Journals) : Type 0 where
  pub here : (i : ℕ) (p : Pending) → slice_get pending i ≡ Some p → IsLeft unknown p.next p.rest (left p.who)
  pub only : (who : Actor) → ((i : ℕ) (p : Pending) → slice_get pending i ≡ Some p → p.who ≡ who → ⊥) → left who ≡ []

-- no two of the journals are of one actor
abbrev pub AreApart : List Pending → Type 0
AreApart pending = (i j : ℕ) (p q : Pending) → slice_get pending i ≡ Some p → slice_get pending j ≡ Some q → p.who ≡ q.who → i ≡ j

-- the bytes are the text of this line, and of no other
pub record IsOnlyText (bytes : List ℕ) (l : OwnLine) : Type 0 where
  pub is : IsText bytes l
  pub only : (other : OwnLine) → IsText bytes other → other ≡ l

-- What is read of a text: its next line, and then what is left of it, or that it has no line any more.
abbrev pub ReadsNext : Option (List ℕ) → Option OwnLine → Option (List ℕ) → Type 0
ReadsNext None next rest = Unit {0}
ReadsNext (Some text) None rest = whole_lines (pieces text) ≡ []
ReadsNext (Some text) (Some l) rest = KnownLeft rest (λ ys. (p : List ℕ) × (whole_lines (pieces text) ≡ p ∷ whole_lines (pieces ys)) × IsOnlyText p l)

-- whose line it is
abbrev pub owner : OwnLine → Actor
owner (own.Life who found) = who
owner (own.Reads who frame) = who
owner (own.Does e) = actor_of e

-- A text that is known begins with a line, or with what is left of a line that was cut off, that is no line of a journal, or
-- is longer than a line may be.
abbrev pub BeginsWithNoLine : Option (List ℕ) → Type 0
BeginsWithNoLine None = Unit {0}
BeginsWithNoLine (Some text) = (p : List ℕ) × (ps : List (List ℕ)) × (pieces text ≡ p ∷ ps) × ((MAX_OWN_LINE_LEN < length p) ⊎ ((l : OwnLine) → IsText p l → ⊥))

-- why bytes were read as no line, of a journal's faults
abbrev pub journals_fault_of : OwnLineFault → JournalsFault
journals_fault_of line_fault.NoLine = fault.NoLine
journals_fault_of line_fault.Memory = fault.Memory

-- Why bytes were read as no line: they are the text of none, or there was no memory.
pub record IsNoText (bytes : List ℕ) (f : JournalsFault) : Type 0 where
  pub one_of : (f ≡ fault.NoLine) ⊎ (f ≡ fault.Memory)
  pub line : f ≡ fault.NoLine → (l : OwnLine) → IsText bytes l → ⊥

-- Why no line of a text was read: it goes on with no line, or the reader failed, or there was no memory.
pub record IsReadFault (text : Option (List ℕ)) (f : JournalsFault) : Type 0 where
  pub one_of : (f ≡ fault.NoLine) ⊎ ((f ≡ fault.Read) ⊎ (f ≡ fault.Memory))
  pub line : f ≡ fault.NoLine → BeginsWithNoLine text

-- one of the journals is the actor's
abbrev pub HasActor : List Pending → Actor → Type 0
HasActor pending who = (i : ℕ) × (p : Pending) × (slice_get pending i ≡ Some p) × ((place p.who == place who) ≡ true)

-- Why a journal was not added to others: it has no line, its first line is the same actor's as another journal, or its first
-- line was not read.
pub record IsAddFault (old : List Pending) (text : Option (List ℕ)) (f : JournalsFault) : Type 0 where
  pub one_of : (f ≡ fault.NoActor) ⊎ ((f ≡ fault.SameActor) ⊎ ((f ≡ fault.NoLine) ⊎ ((f ≡ fault.Read) ⊎ (f ≡ fault.Memory))))
  pub empty : f ≡ fault.NoActor → (rest : Option (List ℕ)) × ReadsNext text None rest
  pub same : f ≡ fault.SameActor → (l : OwnLine) × (rest : Option (List ℕ)) × ReadsNext text (Some l) rest × HasActor old (owner l)
  pub line : f ≡ fault.NoLine → BeginsWithNoLine text

abbrev pub is_others : Option OwnLine → Actor → Bool
is_others None who = false
is_others (Some l) who = not (place (owner l) == place who)

-- A journal was added: its first line was read.
abbrev pub Adds : List Pending → Option (List ℕ) → List Pending → Type 0
Adds old text new = (p : Pending) × (new ≡ old ++ p ∷ []) × ReadsNext text p.next p.rest × (p.number ≡ 1) × ((l : OwnLine) × (p.next ≡ Some l) × (p.who ≡ owner l))

-- What is shown of the next line of the journal at an index, if it has one: also why it is refused, if that was found.
abbrev pub IsNextLine : List Pending → ℕ → Option LineLeft → Type 0
IsNextLine pending i None = (p : Pending) → slice_get pending i ≡ Some p → p.next ≡ None
IsNextLine pending i (Some left) = (p : Pending) × (slice_get pending i ≡ Some p) × (left.who ≡ p.who) × (left.number ≡ p.number) × (p.next ≡ Some left.line.now) × (left.refusal ≡ p.refusal)

-- one line more was read, unless the count is at its end
abbrev pub one_more : ℕ → ℕ
one_more number = min (number + 1) (2 ^ 64 - 1)

-- The journal at an index was read on.
pub record IsRead (i : ℕ) (old new : List Pending) : Type 0 where
  pub before : Pending
  pub after : Pending
  pub was : slice_get old i ≡ Some before
  pub now : slice_get new i ≡ Some after
  pub others : (j : ℕ) → (j ≡ i → ⊥) → slice_get new j ≡ slice_get old j
  pub who : after.who ≡ before.who
  pub number : after.number ≡ one_more before.number
  pub reads : ReadsNext before.rest after.next after.rest

-- These bytes are the text of the event that the next line says. They may be anything if it says none.
abbrev pub IsSpelledBy : List ℕ → Option OwnLine → Type 0
IsSpelledBy bytes next = (e : Event) → next ≡ Some (own.Does e) → bytes ≡ event_text e

-- the bytes are known to be the text, or not
abbrev pub MaySpell : Bool → List ℕ → Option OwnLine → Type 0
MaySpell known bytes next = known ≡ true → IsSpelledBy bytes next

-- the event that the next line says, if it says one
abbrev pub said_next : Option OwnLine → List Event
said_next None = []
said_next (Some l) = said_in l

-- the events by which the next line of a journal was taken
abbrev pub told_by : Pending → Taken → List Event
told_by p taken.Said = said_next p.next
told_by p (taken.Read number) = reading_by p.who number ∷ []
told_by p (taken.Rose true age) = event.Fall p.who ∷ event.Rise p.who age ∷ []
told_by p (taken.Rose false age) = event.Rise p.who age ∷ []

abbrev pub told_of : Option Pending → Taken → List Event
told_of None t = []
told_of (Some p) t = told_by p t

-- how many lines the journals of these actors have
abbrev pub lines_of : List Pending → Journals → ℕ
lines_of [] journals = 0
lines_of (p ∷ ps) journals = length (journals p.who) + lines_of ps journals
