-- What is found of journals: whether they have a merge, and one if there is one.
use Rattle.std.specs.Prelude.{◌≡◌, ◌⊎◌, ◌<◌, ℕ, length, Bool, true, false, List, map, Option, Some, None, Result, Ok, Err, slice_get}
use Rattle.std.specs.Io.KnownBytes.{Appends}
use Rattle.lock_messages.specs.declared.ids.Actor.{Actor}
use Rattle.world_model.specs.declared.events.Effect.{Effect}
use Rattle.world_model.specs.declared.events.Event.{Event}
use Rattle.world_model.specs.declared.exact.ExactWorld.{ExactWorld}
use Rattle.world_model.specs.Locality.{IsHistory, own_events}
use Rattle.world_model.specs.Parts.{part}
use Rattle.line_streams.specs.Streams.{AppendsBeginning, Grows, with_gathered}
use Rattle.own_journals.specs.declared.lines.OwnLine.{OwnLine}
use Rattle.journal_text.specs.Journals.{history_text}
use Rattle.journal_merge.specs.LineMerges.{TellsLine, TellsLines, Journals, HasMerge, IsCut, IsRefused, IsWaiting}
use Rattle.line_merger.specs.declared.offers.MergeFault.{MergeFault}
use Rattle.line_merger.specs.declared.offers.MergeFault.TheVariants as full
use Rattle.line_merger.specs.declared.offers.Offer.{Offer}
use Rattle.line_merger.specs.declared.offers.Offer.TheVariants as offer
use Rattle.line_merger.specs.declared.offers.Taken.{Taken}
use Rattle.line_merger.specs.Offers.{events_of}
use Rattle.line_merger.specs.Reasons.{IsReason, IsUnsaid, IsAttempted}
use Rattle.line_merger.specs.declared.offers.Refusal.{Refusal}
use Rattle.journal_merger.specs.Pendings.{Pending, AreLeft, ReadsNext, lines_of}
use Rattle.journal_merger.specs.declared.faults.Failure.{Failure}
use Rattle.journal_merger.specs.declared.faults.JournalsFault.{JournalsFault}
use Rattle.journal_merger.specs.declared.faults.JournalsFault.TheVariants as fault
use Rattle.journal_merger.specs.declared.finding.Found.{Found}
use Rattle.journal_merger.specs.declared.finding.Found.TheVariants as found
use Rattle.journal_merger.specs.declared.finding.Turn.{Turn}
use Rattle.journal_merger.specs.declared.finding.Turn.TheVariants as turn
use Rattle.journal_merger.specs.declared.merging.Outcome.{Outcome}
use Rattle.journal_merger.specs.declared.merging.Outcome.TheVariants as outcome

-- A history from the world, of which each actor's own events are those that its journal tells.
pub record IsMerged (w : ExactWorld) (journals : Journals) (told : List (Event × Effect)) : Type 0 where
  pub world : ExactWorld
  pub history : IsHistory w told world
  pub own : (who : Actor) → TellsLines w.ballots who (part w who) (journals who) (own_events who told)

-- A history from the world that begins a merge: whatever lines the texts have, it tells first lines of each journal.
pub record IsBegun (w : ExactWorld) (pending : List Pending) (told : List (Event × Effect)) : Type 0 where
  pub world : ExactWorld
  pub history : IsHistory w told world
  pub own : (journals : Journals) → AreLeft ⊥ pending journals → (who : Actor) → (left : List OwnLine) × IsCut w who (journals who) left (own_events who told)

-- A beginning of the text of such a history was written.
abbrev pub WritesBeginning : ExactWorld → List Pending → Option (List ℕ) → Option (List ℕ) → Type 0
WritesBeginning w pending old new = (told : List (Event × Effect)) × IsBegun w pending told × AppendsBeginning old new (history_text told)

-- a fault that a merge may meet: no journal is added then
abbrev pub IsMergeFault : JournalsFault → Type 0
IsMergeFault fault.NoActor = ⊥
IsMergeFault fault.SameActor = ⊥
IsMergeFault fault.NoLine = Unit {0}
IsMergeFault fault.OtherActor = Unit {0}
IsMergeFault fault.Full = Unit {0}
IsMergeFault fault.Read = Unit {0}
IsMergeFault fault.Write = Unit {0}
IsMergeFault fault.Memory = Unit {0}
IsMergeFault fault.TooManyLines = Unit {0}

-- What is found of journals, and what is then written. Merged: the texts have so many lines, these have a merge, and the
-- text of a merge was written. Stuck: whatever lines the texts have, they have no merge. Then, and after a fault, a beginning was
-- written.
abbrev pub Finds : ExactWorld → List Pending → Option (List ℕ) → Option (List ℕ) → Result Outcome Failure → Type 0
Finds w pending old new (Ok (outcome.Merged lines)) =
    (journals : Journals) × (told : List (Event × Effect)) × AreLeft (Unit {0}) pending journals × IsMerged w journals told × HasMerge w journals × (lines ≡ lines_of pending journals) × Appends old new (history_text told)
Finds w pending old new (Ok (outcome.Stuck why)) = ((journals : Journals) → AreLeft ⊥ pending journals → HasMerge w journals → ⊥) × WritesBeginning w pending old new
Finds w pending old new (Err f) = IsMergeFault f.fault × WritesBeginning w pending old new

-- The next line of the actor is taken, by these events.
pub record IsTaken (w : ExactWorld) (who : Actor) (next : Option OwnLine) (t : Taken) (v : ExactWorld) : Type 0 where
  pub line : OwnLine
  pub next_is : next ≡ Some line
  pub events : List (Event × Effect)
  pub tells : TellsLine w.ballots who (part w who) line events
  pub history : IsHistory w events v
  pub are : map (λ q. q.0) events ≡ events_of who line t

-- The next line of the actor waits, or is refused.
abbrev pub Waits : ExactWorld → Actor → Option OwnLine → Type 0
Waits w who next = (line : OwnLine) × (next ≡ Some line) × IsWaiting w who line

abbrev pub Refuses : ExactWorld → Actor → Option OwnLine → Type 0
Refuses w who next = (line : OwnLine) × (next ≡ Some line) × IsRefused w who line

-- The next line reads a message, and nobody said it.
abbrev pub Lacks : ExactWorld → Option OwnLine → Type 0
Lacks w next = (line : OwnLine) × (next ≡ Some line) × IsUnsaid w.sent line

-- This is why the next line of the actor is refused in this world.
abbrev pub HasReason : ExactWorld → Actor → Option OwnLine → Refusal → Type 0
HasReason w who next why = (line : OwnLine) × (next ≡ Some line) × IsReason w.ballots who (part w who) line why

-- The next line of the actor is refused, for this reason, and the actor changed by an attempt at most.
pub record RefusesFor (w : ExactWorld) (who : Actor) (next : Option OwnLine) (why : Refusal) (v : ExactWorld) : Type 0 where
  pub refuses : Refuses w who next
  pub reason : HasReason w who next why
  pub attempted : IsAttempted who w v

-- What came of an actor's turn. Only a line that is taken or refused may change the world.
abbrev pub IsTurn : ExactWorld → Actor → Option OwnLine → Turn → ExactWorld → Type 0
IsTurn w who next turn.Ended v = (v ≡ w) × (next ≡ None)
IsTurn w who next turn.Waits v = (v ≡ w) × Waits w who next × Lacks w next
IsTurn w who next (turn.Took t) v = IsTaken w who next t v
IsTurn w who next (turn.Refused why) v = RefusesFor w who next why v

abbrev pub IsGoing : Turn → Type 0
IsGoing turn.Ended = Unit {0}
IsGoing turn.Waits = Unit {0}
IsGoing (turn.Took t) = Unit {0}
IsGoing (turn.Refused why) = ⊥

-- what comes of an offer
abbrev pub turn_of : Result Offer MergeFault → Result Turn JournalsFault
turn_of (Ok (offer.Took t)) = Ok (turn.Took t)
turn_of (Ok offer.Waits) = Ok turn.Waits
turn_of (Ok (offer.Refused why)) = Ok (turn.Refused why)
turn_of (Err full.Full) = Err fault.Full
turn_of (Err full.Memory) = Err fault.Memory

-- what comes of a line that was only tried
abbrev pub turn_tried : Result (Option Offer) MergeFault → Result (Option Turn) JournalsFault
turn_tried (Ok None) = Ok None
turn_tried (Ok (Some offer.Waits)) = Ok (Some turn.Waits)
turn_tried (Ok (Some (offer.Took t))) = Ok (Some (turn.Took t))
turn_tried (Ok (Some (offer.Refused why))) = Ok (Some (turn.Refused why))
turn_tried (Err full.Full) = Err fault.Full
turn_tried (Err full.Memory) = Err fault.Memory

-- What came of an actor's turn that was only tried: nothing is said and nothing changed, or it is as if it took its turn.
abbrev pub IsTriedTurn : ExactWorld → Actor → Option OwnLine → Option Turn → ExactWorld → Type 0
IsTriedTurn w who next None v = v ≡ w
IsTriedTurn w who next (Some t) v = IsTurn w who next t v

abbrev pub IsTryGoing : Option Turn → Type 0
IsTryGoing None = Unit {0}
IsTryGoing (Some t) = IsGoing t

-- No line of the journal can be taken: it has none, or it waits.
abbrev pub IsIdle : ExactWorld → Pending → Type 0
IsIdle w p = (p.next ≡ None) ⊎ Waits w p.who p.next

abbrev pub AreIdle : ExactWorld → List Pending → ℕ → Type 0
AreIdle w pending count = (i : ℕ) (p : Pending) → i < count → slice_get pending i ≡ Some p → IsIdle w p

-- Whether one of the first journals waits. If none does, they have no line left.
abbrev pub OneWaits : ExactWorld → List Pending → ℕ → Bool → Type 0
OneWaits w pending count true = (i : ℕ) × (p : Pending) × (slice_get pending i ≡ Some p) × Waits w p.who p.next
OneWaits w pending count false = (i : ℕ) (p : Pending) → i < count → slice_get pending i ≡ Some p → p.next ≡ None

-- What was found in a round over all journals.
abbrev pub IsFound : ExactWorld → List Pending → Found → ExactWorld → Type 0
IsFound w pending (found.Took i t) v = (p : Pending) × (slice_get pending i ≡ Some p) × IsTaken w p.who p.next t v
IsFound w pending (found.Refused i why) v = (p : Pending) × (slice_get pending i ≡ Some p) × RefusesFor w p.who p.next why v
IsFound w pending found.Stuck v = AreIdle w pending (length pending) × OneWaits w pending (length pending) true
IsFound w pending found.Merged v = (v ≡ w) × OneWaits w pending (length pending) false

abbrev pub Goes : Found → Type 0
Goes (found.Took i t) = Unit {0}
Goes (found.Refused i why) = ⊥
Goes found.Stuck = ⊥
Goes found.Merged = ⊥

-- What was found at one journal: none if its next line can't be taken now, and then nothing changed.
abbrev pub IsFoundAt : ExactWorld → List Pending → Option Found → ExactWorld → Type 0
IsFoundAt w pending None v = v ≡ w
IsFoundAt w pending (Some f) v = IsFound w pending f v

abbrev pub GoesAt : Option Found → Type 0
GoesAt None = Unit {0}
GoesAt (Some f) = Goes f

-- the text was appended, or after a fault a beginning of it
abbrev pub Begins : {U E : Type 0} → Option (List ℕ) → Option (List ℕ) → List ℕ → Result U E → Type 0
Begins old new text (Ok u) = Appends old new text
Begins old new text (Err e) = AppendsBeginning old new text

-- A text was gathered, or after a fault a beginning of it, after what was gathered before. What is written stays written.
pub record Gathers {U E : Type 0} (old new : Option (List ℕ)) (had has text : List ℕ) (r : Result U E) : Type 0 where
  pub begins : Begins (with_gathered old had) (with_gathered new has) text r
  pub grows : Grows old new

-- Why the next line of a journal is left, in the world in which it was offered: the refusal that is kept with it is why its actor
-- refuses it there. If none is kept, there is no line, or nobody said what it reads.
abbrev pub IsLeftFor : ExactWorld → Actor → Option OwnLine → Option Refusal → Type 0
IsLeftFor w who next None = (next ≡ None) ⊎ (Waits w who next × Lacks w next)
IsLeftFor w who next (Some why) = Refuses w who next × HasReason w who next why

-- What comes of a journal whose next line is offered: it is taken, and the next one is read, or it is left.
abbrev pub GoesAlone : ExactWorld → Pending → Bool → Pending → ExactWorld → Type 0
GoesAlone w p true q v = (t : Taken) × IsTaken w p.who p.next t v × ReadsNext p.rest q.next q.rest × (q.refusal ≡ None)
GoesAlone w p false q v = (q.next ≡ p.next) × (q.rest ≡ p.rest) × IsLeftFor w p.who q.next q.refusal × IsAttempted p.who w v

-- A refusal that was kept stays, and its line is not taken.
abbrev pub IsKept : Pending → Bool → Pending → Type 0
IsKept p took q = (why : Refusal) → p.refusal ≡ Some why → (took ≡ false) × (q ≡ p)
