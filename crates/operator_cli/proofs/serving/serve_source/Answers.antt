use Rattle.operator_cli.proofs.HearFacts.{unstarted_heard, started_heard}
use Rattle.operator_cli.proofs.ServeFacts.{serves_refusal, serves_behind, common_faults}
use Rattle.operator_cli.proofs.serving.serve_source.Goals as goal

pub returns-in-Err : goal.returns-in-Err
returns-in-Err g c =
    let out = g.W.Write.contents in
    let h = c.in-Err.ensures.start in
    record {
      output = serves_refusal c.args.order.command c.args.source.now c.read_start.new.source (out c.args.writer.now) (out c.refuse_start.new.writer) c.in-Err.fault c.refuse_start.result h c.refuse_start.ensures.told;
      heard = unstarted_heard c.args.order.command c.args.source.now c.read_start.new.source c.in-Err.fault (g.V.Watcher.heard c.args.watcher.now) (g.V.Watcher.heard c.show_fault.new.onlooker) (out c.args.writer.now) (out c.refuse_start.new.writer) c.refuse_start.result h c.refuse_start.ensures.told c.show_fault.ensures;
      faults = common_faults c.args.order.command c.refuse_start.result c.refuse_start.ensures.faults;
    }

pub returns : goal.returns
returns g c =
    let out = g.W.Write.contents in
    let h = c.in-Ok.ensures.start in
    record {
      output = serves_behind c.args.order.command c.args.source.now c.read_start.new.source (out c.args.writer.now) (out c.serve_behind.new.writer) c.in-Ok.start c.serve_behind.result h c.serve_behind.ensures.told;
      heard = started_heard c.args.order.command c.args.source.now c.read_start.new.source c.in-Ok.start (g.V.Watcher.heard c.args.watcher.now) (g.V.Watcher.heard c.see_settings.new.self) (g.V.Watcher.heard c.serve_behind.new.watcher) c.serve_behind.result h c.see_settings.ensures c.serve_behind.ensures.heard;
      faults = c.serve_behind.ensures.faults;
    }
