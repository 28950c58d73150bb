-- The lines of a journal: which line is which event, and which lines are which events.
use Rattle.std.specs.Prelude.{◌≡◌, ℕ, List, [], ◌∷◌, Result, Ok, Err}
use Rattle.world_model.specs.declared.events.Event.{Event}
use Rattle.event_lines.specs.declared.commands.Command.{Command}
use Rattle.event_lines.specs.declared.commands.Command.TheVariants as command
use Rattle.event_lines.specs.declared.faults.LineFault.{LineFault}
use Rattle.event_lines.specs.declared.faults.LineFault.TheVariants as fault
use Rattle.event_lines.specs.declared.lines.Line.{Line}
use Rattle.event_lines.specs.declared.lines.Line.TheVariants as line
use Rattle.event_lines.specs.Lines.{◌>>=◌, line_of, text_of, IsInRange}

-- the commands of events
abbrev pub event_commands : List Command
event_commands =
    command.Begin ∷ command.Try ∷ command.Kept ∷ command.SayTo ∷ command.Say ∷ command.Take ∷ command.Hear ∷ command.Enter ∷ command.Leave ∷ command.Soften ∷ command.Fall ∷ command.Rise ∷ command.Switch
    ∷ []

-- the event of a line; where these commands are read no line is a query
abbrev pub event_in : Line → Result Event LineFault
event_in (line.Event e) = Ok e
event_in (line.Query q) = Err fault.Word

-- What a line of a journal says, given without its line feed: an event, or what is wrong with it.
unfoldable pub event_of : List ℕ → Result Event LineFault
event_of bytes = line_of event_commands bytes >>= event_in

-- the one text of an event, without a line feed
abbrev pub event_text : Event → List ℕ
event_text e = text_of (line.Event e)

-- its numbers are those that a line may have
abbrev pub IsEventInRange : Event → Type 0
IsEventInRange e = IsInRange (line.Event e)

-- the line spells the event
abbrev pub IsSpelling : List ℕ → Event → Type 0
IsSpelling bytes e = (bytes ≡ event_text e) × IsEventInRange e

-- Lines are the journal of events: the first line spells the first event, and so on, to the end of both.
abbrev pub AreJournal : List (List ℕ) → List Event → Type 0
AreJournal [] [] = Unit {0}
AreJournal [] (e ∷ es) = ⊥
AreJournal (l ∷ ls) [] = ⊥
AreJournal (l ∷ ls) (e ∷ es) = IsSpelling l e × AreJournal ls es
