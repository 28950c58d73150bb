use Rattle.std.proofs.Common.{arith}
use Rattle.std.specs.String.{string_bytes}
use Rattle.hex.specs.Hex.{IsBytes}
use Rattle.own_recorders.proofs.LineFacts.{if_ok, has_parts}
use Rattle.own_recorders.proofs.lines.line_of_parts.Goals as goal

pub returns : goal.returns
returns c =
    let fits : IsBytes c.args.bytes.now = λ i. let f = c.type_inv.bytes i in omega arith in
    if_ok c.text_of_parts.result (λ line text. has_parts c.args.word.now c.args.who.now c.args.bytes.now c.requires c.tell_actor.ensures fits (string_bytes line) text) c.text_of_parts.ensures
