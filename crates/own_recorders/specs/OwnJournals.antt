-- The journal of one actor's log, and how a recorder of its own writes it.
use Rattle.std.specs.Prelude.{◌≡◌, ◌⊎◌, ℕ, ◌<◌, Bool, true, false, List, [], ◌∷◌, ◌++◌, length, map, Option, Some, None, Result, Ok, Err}
use Rattle.std.specs.Io.KnownBytes.{Appends}
use Rattle.std.specs.List.{All}
use Rattle.lock_messages.specs.declared.ids.Actor.{Actor}
use Rattle.lock_messages.specs.declared.messages.Message.{Message}
use Rattle.lock_messages.specs.Frames.{frame_of}
use Rattle.lock_messages.specs.Messages.{IsMessage}
use Rattle.lock_model.specs.Ballots.{Ballot}
use Rattle.world_model.specs.declared.events.Effect.{Effect}
use Rattle.world_model.specs.declared.events.Event.{Event}
use Rattle.world_model.specs.Parts.{Part, NoPart, message_of, own_refusal}
use Rattle.event_lines.specs.Lines.{is_space}
use Rattle.event_recorders.specs.declared.log_faults.LogFault.{LogFault}
use Rattle.event_recorders.specs.declared.log_faults.LogFault.TheVariants as fault
use Rattle.event_recorders.specs.OwnLogs.{OwnLog, part_now, kept_in, IsAdded, IsDownAtRest}
use Rattle.merge_model.specs.OwnRuns.{IsTurn, IsOwnRun}
use Rattle.own_journals.specs.declared.lines.OwnLine.{OwnLine}
use Rattle.own_journals.specs.declared.lines.OwnLine.TheVariants as own
use Rattle.own_journals.specs.OwnLines.{IsFramed, IsWhole}

-- the line of an event: if it reads a message, the line has the message's frame
abbrev pub event_line : Actor → Event → Option Message → OwnLine
event_line who e None = own.Does e
event_line who e (Some m) = own.Reads who (frame_of m)

-- The lines of a log. Its first event is the rise of its actor. The line that opens the life stands for it, with the
-- bytes that were found in the record.
abbrev pub life_lines : Actor → List ℕ → List (Event × Effect) → List OwnLine
life_lines who found [] = []
life_lines who found (rise ∷ events) = own.Life who found ∷ map (λ q. event_line who q.0 (message_of q.1)) events

abbrev pub log_lines : OwnLog → List OwnLine
log_lines l = life_lines l.actor (kept_in l.opening) l.events

-- the line that the next event of a log gets
abbrev pub line_behind : Actor → List ℕ → List (Event × Effect) → Event → Option Message → OwnLine
line_behind who found [] e read = own.Life who found
line_behind who found (q ∷ events) e read = event_line who e read

abbrev pub next_line : OwnLog → Event → Option Message → OwnLine
next_line l e read = line_behind l.actor (kept_in l.opening) l.events e read

-- a message that is read is one that may be
abbrev pub IsRead : Option Message → Type 0
IsRead None = Unit {0}
IsRead (Some m) = IsMessage m

abbrev pub AreRead : List (Event × Effect) → Type 0
AreRead events = All (λ q. IsRead (message_of q.1)) events

-- the bytes are the whole text of the line and a line feed
abbrev pub IsLine : OwnLine → List ℕ → Type 0
IsLine line bytes = (text : List ℕ) × IsWhole text line × (bytes ≡ text ++ 10 ∷ [])

-- The bytes are a line with these three parts: a word, the actor's name, and these bytes in hexadecimal digits.
abbrev pub HasParts : List ℕ → Actor → List ℕ → List ℕ → Type 0
HasParts word who framed bytes = (text : List ℕ) × IsFramed text word who framed × (bytes ≡ text ++ 10 ∷ [])

-- a word of a line has no space
abbrev pub IsWord : List ℕ → Type 0
IsWord word = All (λ b. is_space b ≡ false) word

-- some part of an actor allows the event, under these ballots
abbrev pub IsAllowedSomewhere : List Ballot → Event → Type 0
IsAllowedSomewhere b e = (p : Part) × (own_refusal b e p ≡ None)

-- the bytes are the texts of these lines, in order, a line feed after each
abbrev pub AreLines : List OwnLine → List ℕ → Type 0
AreLines [] bytes = bytes ≡ []
AreLines (line ∷ lines) bytes = (first rest : List ℕ) × IsLine line first × AreLines lines rest × (bytes ≡ first ++ rest)

-- What contracts see of a recorder: the log, the bytes that the journal's writer held when the log was opened and holds
-- now, if they are known, and whether the recorder takes nothing more.
pub record OwnKeeper : Type 0 where
  pub log : OwnLog
  pub before : Option (List ℕ)
  pub written : Option (List ℕ)
  pub stuck : Bool

-- a beginning of some line, and not all of it
abbrev pub IsTorn : List ℕ → Type 0
IsTorn front = (line : OwnLine) × (bytes back : List ℕ) × IsLine line bytes × (bytes ≡ front ++ back) × (0 < length back)

-- The journal holds what it held before and the lines of the log. If the recorder takes nothing more, a torn line
-- may follow.
abbrev pub HoldsLog : Bool → OwnLog → Option (List ℕ) → Option (List ℕ) → Type 0
HoldsLog false l before now = (bytes : List ℕ) × AreLines (log_lines l) bytes × Appends before now bytes
HoldsLog true l before now = (bytes front : List ℕ) × AreLines (log_lines l) bytes × IsTorn front × Appends before now (bytes ++ front)

-- the log has an event
abbrev pub has_begun : List (Event × Effect) → Bool
has_begun [] = false
has_begun (q ∷ events) = true

-- What holds of a recorder. Its actor was down when the log was opened, its log is an own run, and its journal has the
-- lines of the log. Until a write fails its actor is as the log says.
pub record IsKeeping (k : OwnKeeper) (is_begun : Bool) (p : Part) : Type 0 where
  pub down : IsDownAtRest k.log.actor k.log.opening
  pub part : k.stuck ≡ false → part_now k.log ≡ p
  pub run : IsOwnRun k.log.ballots k.log.actor k.log.opening k.log.events
  pub read : AreRead k.log.events
  pub begun : is_begun ≡ has_begun k.log.events
  pub journal : HoldsLog k.stuck k.log k.before k.written

-- The event joined the log as a turn of the actor's own part, and its line was written.
pub record HasLogged (k : OwnKeeper) (e : Event) (read : Option Message) (done : Effect) (k' : OwnKeeper) : Type 0 where
  pub free : k.stuck ≡ false
  pub added : IsAdded k.log e done k'.log
  pub turn : IsTurn k.log.ballots (part_now k.log) e done
  pub message : message_of done ≡ read
  pub line : (bytes : List ℕ) × IsLine (next_line k.log e read) bytes × Appends k.written k'.written bytes
  pub still : k'.stuck ≡ false
  pub before : k'.before ≡ k.before

-- The write of the line failed: a beginning of it is written, and not all of it. Nothing more is taken.
pub record HasTorn (k : OwnKeeper) (e : Event) (read : Option Message) (k' : OwnKeeper) : Type 0 where
  pub free : k.stuck ≡ false
  pub log : k'.log ≡ k.log
  pub line : (bytes front back : List ℕ) × IsLine (next_line k.log e read) bytes × (bytes ≡ front ++ back) × (0 < length back) × Appends k.written k'.written front
  pub stuck : k'.stuck ≡ true
  pub before : k'.before ≡ k.before

-- nothing was done
abbrev pub IsRefused : OwnKeeper → Event → Option Message → OwnKeeper → LogFault → Type 0
IsRefused k e read k' fault.Memory = (k.stuck ≡ false) × (k' ≡ k)
IsRefused k e read k' fault.Full = ((k.stuck ≡ true) × (k' ≡ k)) ⊎ HasTorn k e read k'
IsRefused k e read k' (fault.NotAStep f) = ⊥
IsRefused k e read k' fault.OtherActor = ⊥
IsRefused k e read k' fault.OtherBook = ⊥

-- what a recorder did with an event, by what it returned
abbrev pub Logs : OwnKeeper → Event → Option Message → OwnKeeper → Result Effect LogFault → Type 0
Logs k e read k' (Ok done) = HasLogged k e read done k'
Logs k e read k' (Err f) = IsRefused k e read k' f

-- the part of the actor, and what the journal held, when the log was opened
abbrev pub opening_of : {K W : Type 0} → (K → Part) → List (K × W) → Part
opening_of part [] = NoPart
opening_of part (k ∷ more) = part k.0

abbrev pub held_before : {K W : Type 0} → (W → Option (List ℕ)) → List (K × W) → Option (List ℕ)
held_before contents [] = None
held_before contents (k ∷ more) = contents k.1

abbrev pub keeper_of : {K W : Type 0} → (K → Actor) → (K → List Ballot) → (K → Part) → (W → Option (List ℕ)) → K → W → List (K × W) → List (Event × Effect) → Bool → OwnKeeper
keeper_of actor ballots part contents k w opened made stuck = record {
  log = record { actor = actor k; ballots = ballots k; opening = opening_of part opened; events = made };
  before = held_before contents opened;
  written = contents w;
  stuck = stuck;
}
