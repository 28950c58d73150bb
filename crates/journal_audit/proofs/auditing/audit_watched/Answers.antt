use Rattle.journal_audit.proofs.AuditFacts.{verdict_found, no_verdict, not_told}
use Rattle.journal_audit.proofs.HearFacts.{end_heard, unheard}
use Rattle.journal_audit.proofs.LeftFacts.{untold_left}
use Rattle.journal_audit.proofs.auditing.audit_watched.Goals as goal

pub returns-in-Err-clause-told : goal.returns-in-Err-clause-told
returns-in-Err-clause-told g c =
    no_verdict c.events_are_spelled_once.ensures c.args.world c.args.source.now (g.W.Write.contents c.args.writer.now) c.in-Err.fault c.in-Err.ensures.found c.in-Err.ensures.fault

pub returns-in-Ok-tell_verdict-clause-told : goal.returns-in-Ok-tell_verdict-clause-told
returns-in-Ok-tell_verdict-clause-told g c = (verdict_found c.events_are_spelled_once.ensures c.args.world c.args.source.now c.in-Ok.verdict c.in-Ok.ensures.found, c.in-Ok-tell_verdict.ensures.text)

pub returns-clause-told : goal.returns-clause-told
returns-clause-told g c =
    not_told c.events_are_spelled_once.ensures c.args.world c.args.source.now (g.W.Write.contents c.args.writer.now) (g.W.Write.contents c.tell_verdict.new.writer) c.in-Ok.verdict c.in-Err-tell_verdict.fault c.in-Err-tell_verdict.fault
    c.in-Ok.ensures.found c.in-Err-tell_verdict.ensures.text c.in-Err-tell_verdict.ensures.fault

pub returns-clause-left : goal.returns-clause-left
returns-clause-left g c = untold_left c.args.world c.args.source.now c.judge_lines.new.source c.in-Ok.verdict c.in-Err-tell_verdict.fault c.in-Ok.ensures.left c.in-Err-tell_verdict.ensures.fault

pub returns-in-Err-clause-heard : goal.returns-in-Err-clause-heard
returns-in-Err-clause-heard g c = unheard c.args.world c.args.source.now (g.V.Watcher.heard c.args.watcher.now) (g.V.Watcher.heard c.judge_lines.new.watcher) c.in-Err.fault

pub returns-in-Ok-tell_verdict-clause-heard : goal.returns-in-Ok-tell_verdict-clause-heard
returns-in-Ok-tell_verdict-clause-heard g c =
    end_heard c.args.world c.args.source.now (g.V.Watcher.heard c.args.watcher.now) (g.V.Watcher.heard c.judge_lines.new.watcher) (g.V.Watcher.heard c.show_end.new.watcher) c.in-Ok.verdict c.in-Ok.ensures.heard c.show_end.ensures

pub returns-clause-heard : goal.returns-clause-heard
returns-clause-heard g c = unheard c.args.world c.args.source.now (g.V.Watcher.heard c.args.watcher.now) (g.V.Watcher.heard c.show_end.new.watcher) c.in-Err-tell_verdict.fault
