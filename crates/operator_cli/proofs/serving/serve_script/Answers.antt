use Rattle.std.proofs.Common.{refl}
use Rattle.operator_cli.specs.declared.faults.ServeFault.TheVariants as fault
use Rattle.world_settings.specs.declared.commands.Command.TheVariants as command
use Rattle.operator_cli.proofs.ServeFacts.{nothing_behind}
use Rattle.operator_cli.proofs.serving.serve_script.Goals as goal

pub returns-in_default-clause-told : goal.returns-in_default-clause-told
returns-in_default-clause-told g c =
    let out = g.W.Write.contents in
    nothing_behind command.Script c.args.settings.now c.args.source.now (out c.args.writer.now) (out c.args.writer.now) fault.Memory tt refl

pub returns-then-is_err-clause-told : goal.returns-then-is_err-clause-told
returns-then-is_err-clause-told g c =
    let out = g.W.Write.contents in
    nothing_behind command.Script c.args.settings.now c.args.source.now (out c.args.writer.now) (out c.args.writer.now) fault.Memory tt refl
