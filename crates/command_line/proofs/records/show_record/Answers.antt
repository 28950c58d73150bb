use Rattle.program_ends.specs.Endings.{Writers}
use Rattle.command_line.proofs.RecordFacts.{shows_report}
use Rattle.command_line.proofs.records.show_record.Goals as goal

pub returns-in-Ok : goal.returns-in-Ok
returns-in-Ok g c =
    let w : Writers = record {
      old = g.W.Write.contents c.args.output.now;
      new = g.W.Write.contents c.show_with.new.output;
      errors_old = g.E.Write.contents c.args.errors.now;
      errors_new = g.E.Write.contents c.show_with.new.errors;
    } in
    shows_report c.in-Ok.report c.status_for.result c.as_str.result.now w c.show_with.result c.in-Ok.ensures.reports c.status_for.ensures c.as_str.ensures.value c.show_with.ensures
