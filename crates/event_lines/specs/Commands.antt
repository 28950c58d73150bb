-- The words that lines begin with.
use Rattle.std.specs.Prelude.{ℕ, if◌then◌else◌, List, [], ◌∷◌, Result, Ok, Err, codes}
use Rattle.std.specs.Str.{bytes_eq}
use Rattle.event_lines.specs.declared.commands.Command.{Command}
use Rattle.event_lines.specs.declared.commands.Command.TheVariants as command
use Rattle.event_lines.specs.declared.faults.LineFault.{LineFault}
use Rattle.event_lines.specs.declared.faults.LineFault.TheVariants as fault

-- the first word of a command's lines
abbrev pub word_of : Command → List ℕ
word_of command.Begin = codes "begin"
word_of command.Try = codes "try"
word_of command.Kept = codes "kept"
word_of command.SayTo = codes "sayto"
word_of command.Say = codes "say"
word_of command.Take = codes "take"
word_of command.Hear = codes "hear"
word_of command.Enter = codes "enter"
word_of command.Leave = codes "leave"
word_of command.Soften = codes "soften"
word_of command.Fall = codes "fall"
word_of command.Rise = codes "rise"
word_of command.Switch = codes "switch"
word_of command.Inside = codes "inside"
word_of command.Waiting = codes "waiting"
word_of command.Holding = codes "holding"

-- Which of these commands the word names. A command that isn't among them is none.
abbrev pub named : List Command → List ℕ → Result Command LineFault
named [] word = Err fault.Word
named (c ∷ cs) word = if bytes_eq word (word_of c) then Ok c else named cs word
