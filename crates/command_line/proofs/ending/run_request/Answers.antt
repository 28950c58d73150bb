use Rattle.std.proofs.Common.{subst, sym}
use Rattle.program_ends.specs.Endings.{Writers}
use Rattle.command_words.specs.declared.reading.Request.{Request}
use Rattle.command_line.specs.CommandLine.{RunsRequest}
use Rattle.command_line.proofs.ending.run_request.Goals as goal

pub returns-in-Merge : goal.returns-in-Merge
returns-in-Merge g c =
    let w : Writers = record {
      old = g.W.Write.contents c.args.output.now;
      new = g.W.Write.contents c.run_merging.new.output;
      errors_old = g.E.Write.contents c.args.errors.now;
      errors_new = g.E.Write.contents c.run_merging.new.errors;
    } in
    subst (λ (r : Request). RunsRequest r (g.R.Read.remaining c.args.reader) w c.run_merging.result) (sym c.in-Merge.is) c.run_merging.ensures
