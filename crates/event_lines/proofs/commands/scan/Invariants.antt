use Rattle.std.proofs.Common.{◌≡◌, drop}
use Rattle.event_lines.specs.Commands.{named}
use Rattle.event_lines.proofs.commands.scan.Given as goal

abbrev pub invariant-loop-command : goal.invariant-loop-command
invariant-loop-command l = named (drop l.command-index l.commands) l.word ≡ named l.commands l.word
