use Rattle.std.proofs.Common.{map, string_bytes, refl, sym}
use Rattle.std.proofs.KnownBytes.{Keeps-refl}
use Rattle.clap.specs.Words.{fault_of}
use Rattle.program_ends.specs.Endings.{Writers}
use Rattle.program_ends.proofs.WordFacts.{unserved_same}
use Rattle.picture_cli.specs.Drawing.{Page}
use Rattle.picture_cli.specs.Words.{app, rows_in}
use Rattle.picture_cli.proofs.WordFacts.{read_same, runs_value, runs_unserved}
use Rattle.picture_cli.proofs.ending.run_words.Goals as goal

pub returns-in-Err-Unserved : goal.returns-in-Err-Unserved
returns-in-Err-Unserved g c =
    let words = map string_bytes c.args.words.now in
    let page : Page = record { old = g.P.Canvas.drawn c.args.page.now; new = g.P.Canvas.drawn c.end_unserved.new.output } in
    let w : Writers = record {
      old = g.P.Write.contents c.args.page.now;
      new = g.P.Write.contents c.end_unserved.new.output;
      errors_old = g.E.Write.contents c.args.errors.now;
      errors_new = g.E.Write.contents c.end_unserved.new.errors;
    } in
    let unserved = read_same (fault_of app words) (rows_in words) c.in-Err-Unserved.field-0 _ c.in-Err-Unserved.ensures c.in-Err-Unserved.field-0-is in
    runs_unserved (g.R.Read.remaining c.args.reader) (fault_of app words) (rows_in words) page w c.end_unserved.result _ (unserved_same (fault_of app words) c.in-Err-Unserved.why _ unserved (sym c.in-Err-Unserved.why-is)) c.end_unserved.ensures.kinds

pub returns : goal.returns
returns g c =
    let words = map string_bytes c.args.words.now in
    let d = g.P.Canvas.drawn c.args.page.now in
    let page : Page = record { old = d; new = d } in
    let o = g.P.Write.contents c.args.page.now in
    let w : Writers = record { old = o; new = o; errors_old = g.E.Write.contents c.args.errors.now; errors_new = g.E.Write.contents c.say.new.errors } in
    let wrong = read_same (fault_of app words) (rows_in words) c.in-Err-Value.field-0 _ c.in-Err-Value.ensures c.in-Err-Value.field-0-is in
    runs_value (g.R.Read.remaining c.args.reader) (fault_of app words) (rows_in words) page w c.say.result wrong.0 wrong.1 refl (_, Keeps-refl o, c.say.ensures)
