use Rattle.operator_cli.specs.declared.faults.ServeFault.TheVariants as fault
use Rattle.operator_cli.specs.Hearing.{journal_words}
use Rattle.operator_cli.proofs.HearFacts.{journal_heard, no_hearing}
use Rattle.operator_cli.proofs.ServeFacts.{verdict_written, verdict_unwritten}
use Rattle.operator_cli.proofs.serving.judge.Goals as goal

pub returns-in-Ok : goal.returns-in-Ok
returns-in-Ok g c =
    let out = g.W.Write.contents in
    let heard = g.V.Watcher.heard in
    record {
      told = verdict_written c.args.world c.args.source.now (out c.args.writer.now) (out c.audit_watched.new.writer) c.in-Ok.verdict c.verdict_status.result c.in-Ok.ensures.told c.verdict_status.ensures;
      heard = journal_heard c.args.world c.args.source.now (heard c.args.watcher.now) (heard c.audit_watched.new.watcher) (out c.args.writer.now) (out c.audit_watched.new.writer) c.in-Ok.verdict c.verdict_status.result c.in-Ok.ensures.heard c.in-Ok.ensures.told;
    }

pub returns-in-Err : goal.returns-in-Err
returns-in-Err g c =
    let out = g.W.Write.contents in
    let heard = g.V.Watcher.heard in
    record {
      told = verdict_unwritten c.args.world c.args.source.now (out c.args.writer.now) (out c.audit_watched.new.writer) c.in-Err.fault c.in-Err.ensures.told;
      heard = no_hearing (journal_words c.args.world) c.args.source.now (heard c.args.watcher.now) (heard c.audit_watched.new.watcher) (fault.Audit c.in-Err.fault);
    }
