use Rattle.std.proofs.Common.{rules, ◌∙◌, sym}
use Rattle.event_lines.proofs.LineLaws.{named_there}
use Rattle.event_lines.proofs.commands.if_named.Goals as goal

pub returns-then-is_word : goal.returns-then-is_word
returns-then-is_word c =
    named_there c.args.commands.now c.args.place c.args.word.now c.in_ok-command.command (search rules) (sym c.is_word.ensures ∙ c.if-is_word.true)
