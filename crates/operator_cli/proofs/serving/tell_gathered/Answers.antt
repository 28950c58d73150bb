use Rattle.line_streams.specs.Streams.{with_gathered}
use Rattle.operator_cli.specs.Hearing.{script_words}
use Rattle.operator_cli.proofs.HearFacts.{heard_finished}
use Rattle.operator_cli.proofs.ServeFacts.{finished, nothing_gathered}
use Rattle.operator_cli.proofs.serving.tell_gathered.Goals as goal

pub returns-clause-told : goal.returns-clause-told
returns-clause-told g c =
    let put = g.W.Write.contents in
    finished c.args.world.now c.args.source.now (put c.args.writer.now) (put c.tell_lines-came.new.writer) (put c.finish.new.writer) c.tell_lines-came.new.out c.tell_lines-came.result c.finish.result
    (nothing_gathered c.args.world.now c.args.source.now (put c.args.writer.now) (with_gathered (put c.tell_lines-came.new.writer) c.tell_lines-came.new.out) c.args.out.now c.tell_lines-came.result c.requires c.tell_lines-came.ensures.told)
    c.tell_lines-came.ensures.grows c.finish.ensures.told

pub returns-clause-heard : goal.returns-clause-heard
returns-clause-heard g c =
    let put = g.W.Write.contents in
    heard_finished (script_words c.args.world.now) c.args.source.now (g.V.Watcher.heard c.args.watcher.now) (g.V.Watcher.heard c.tell_lines-came.new.watcher) (put c.tell_lines-came.new.writer) (put c.finish.new.writer) c.tell_lines-came.new.out c.tell_lines-came.result c.finish.result
    c.tell_lines-came.ensures.heard c.finish.ensures.told
