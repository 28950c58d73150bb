use Rattle.std.proofs.Common.{◌++◌, ap, ◌∙◌, arith}
use Rattle.std.specs.Option.{option_to_list}
use Rattle.world_model.specs.ExactWorlds.{numbered}
use Rattle.journal_picture.proofs.TellFacts.{said_more}
use Rattle.journal_picture.proofs.telling.said_from.Goals as goal

pub loop-number-preserved : goal.loop-number-preserved
loop-number-preserved g c =
    said_more (λ k. option_to_list (numbered c.args.world.now.sent k)) c.args.first c.loop-number.number _ _ (omega arith) c.loop-number.invariant
    (c.in_ok-add_message.ensures ∙ ap (λ m. c.loop-number.said.items ++ option_to_list m) c.sent.ensures)
