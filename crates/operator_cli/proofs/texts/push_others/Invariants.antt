use Rattle.std.proofs.Common.{◌≡◌, ◌++◌, take, string_bytes}
use Rattle.std.specs.List.{flat_map}
use Rattle.operator_cli.specs.Texts.{other_text}
use Rattle.operator_cli.proofs.texts.push_others.Given as goal

abbrev pub invariant-loop-ticket : goal.invariant-loop-ticket
invariant-loop-ticket l = string_bytes l.text ≡ string_bytes l.fn.text ++ flat_map other_text (take l.ticket-index l.tickets)
