use Rattle.std.proofs.Common.{arith, string_bytes}
use Rattle.world_model.specs.ExactWorlds.{numbered}
use Rattle.operator_cli.specs.Texts.{found_text}
use Rattle.operator_cli.proofs.TextFacts.{said_more}
use Rattle.operator_cli.proofs.texts.push_said.Goals as goal

pub loop-number-preserved : goal.loop-number-preserved
loop-number-preserved g c =
    said_more (λ k. found_text k (numbered c.args.world.now.sent k)) c.args.first c.loop-number.number (string_bytes c.args.text.now) _ _ (omega arith) c.loop-number.invariant c.in_ok-push_found.ensures
