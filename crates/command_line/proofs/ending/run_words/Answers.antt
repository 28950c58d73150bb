use Rattle.std.proofs.Common.{map, string_bytes}
use Rattle.clap.specs.Words.{fault_of}
use Rattle.program_ends.specs.Endings.{Writers}
use Rattle.command_words.specs.Words.{app, found_in}
use Rattle.command_line.proofs.WordFacts.{runs_unserved}
use Rattle.command_line.proofs.ending.run_words.Goals as goal

pub returns-in-Err : goal.returns-in-Err
returns-in-Err g c =
    let words = map string_bytes c.args.words.now in
    let w : Writers = record {
      old = g.W.Write.contents c.args.output.now;
      new = g.W.Write.contents c.end_unserved.new.output;
      errors_old = g.E.Write.contents c.args.errors.now;
      errors_new = g.E.Write.contents c.end_unserved.new.errors;
    } in
    runs_unserved (g.R.Read.remaining c.args.reader) (fault_of app words) (found_in words) w c.end_unserved.result c.with_origin.result (c.with_origin.ensures _ c.in-Err.ensures) c.end_unserved.ensures.kinds
