use Rattle.std.proofs.Common.{refl}
use Rattle.operator_cli.specs.declared.faults.ServeFault.TheVariants as fault
use Rattle.operator_cli.specs.Hearing.{behind_words}
use Rattle.world_settings.specs.declared.commands.Command.TheVariants as command
use Rattle.operator_cli.proofs.HearFacts.{no_hearing}
use Rattle.operator_cli.proofs.ServeFacts.{nothing_behind}
use Rattle.operator_cli.proofs.serving.serve_audit.Goals as goal

pub returns-in_default : goal.returns-in_default
returns-in_default g c =
    let out = g.W.Write.contents in
    let heard = g.V.Watcher.heard in
    record {
      told = nothing_behind command.Audit c.args.settings.now c.args.source.now (out c.args.writer.now) (out c.args.writer.now) fault.Memory tt refl;
      heard = no_hearing (behind_words command.Audit c.args.settings.now) c.args.source.now (heard c.args.watcher.now) (heard c.args.watcher.now) fault.Memory;
    }
