-- The lines of a script: every event, and the three queries. Which line is which of these is said by
-- `event_lines`.
use Rattle.std.specs.Prelude.{ℕ, List, [], ◌∷◌, Result}
use Rattle.event_lines.specs.declared.commands.Command.{Command}
use Rattle.event_lines.specs.declared.commands.Command.TheVariants as command
use Rattle.event_lines.specs.declared.faults.LineFault.{LineFault}
use Rattle.event_lines.specs.declared.lines.Line.{Line}
use Rattle.event_lines.specs.Lines as lines

-- the commands that a script reads: all that there are
abbrev pub commands : List Command
commands =
    command.Begin ∷ command.Try ∷ command.Kept ∷ command.SayTo ∷ command.Say ∷ command.Take ∷ command.Hear ∷ command.Enter ∷ command.Leave ∷ command.Soften
    ∷ command.Fall ∷ command.Rise ∷ command.Switch ∷ command.Inside ∷ command.Waiting ∷ command.Holding ∷ []

-- What a line says, given without its line feed: an event or a query, or what is wrong with it.
unfoldable pub line_of : List ℕ → Result Line LineFault
line_of bytes = lines.line_of commands bytes
