-- The commands that a client's program reads, and how each is written.
use Rattle.std.specs.Prelude.{◌≡◌, ℕ, nat_eq, if◌then◌else◌, List, [], ◌++◌, codes, Option, Some, None}
use Rattle.std.specs.Fmt.{decimal}
use Rattle.lock_messages.specs.Texts.{mode_text}
use Rattle.client_commands.specs.declared.commands.Command.{Command}
use Rattle.client_commands.specs.declared.commands.Command.TheVariants as command
use Rattle.client_commands.specs.declared.commands.Entry.{Entry}
use Rattle.client_commands.specs.declared.commands.Waiting.{Waiting}
use Rattle.client_commands.specs.declared.commands.Waiting.TheVariants as waiting

-- the first word of a command that does not wait
abbrev pub try_text : Waiting → List ℕ
try_text waiting.Long = []
try_text (waiting.Within milliseconds) = []
try_text waiting.Never = codes "try "

-- the place of another ballot than the first: ` b2`
abbrev pub place_text : ℕ → List ℕ
place_text place = if nat_eq place 1 then [] else codes " b" ++ decimal place

-- how long it waits: ` within 2000`
abbrev pub within_text : Waiting → List ℕ
within_text waiting.Long = []
within_text (waiting.Within milliseconds) = codes " within " ++ decimal milliseconds
within_text waiting.Never = []

abbrev pub entry_text : Entry → List ℕ
entry_text e = try_text e.waiting ++ (mode_text e.mode ++ (codes " " ++ (e.resource ++ (place_text e.place ++ within_text e.waiting))))

-- the one line of a command, without a line feed
abbrev pub command_text : Command → List ℕ
command_text (command.Enter e) = entry_text e
command_text command.Soften = codes "soften"
command_text command.Leave = codes "leave"
command_text command.Status = codes "status"

-- the line is that of the command, if one was read
abbrev pub Reads : List ℕ → Option Command → Type 0
Reads line (Some c) = line ≡ command_text c
Reads line None = Unit {0}
