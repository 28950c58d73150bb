use Rattle.std.proofs.Common.{◌∙◌, List, ℕ, map, string_bytes, ap, subst}
use Rattle.program_ends.specs.Endings.{Writers}
use Rattle.picture_cli.specs.Drawing.{Page, Runs}
use Rattle.picture_cli.proofs.ending.run_given.Goals as goal

pub returns : goal.returns
returns g c =
    let page : Page = record { old = g.P.Canvas.drawn c.args.page.now; new = g.P.Canvas.drawn c.run_words.new.page } in
    let w : Writers = record {
      old = g.P.Write.contents c.args.page.now;
      new = g.P.Write.contents c.run_words.new.page;
      errors_old = g.E.Write.contents c.args.errors.now;
      errors_new = g.E.Write.contents c.run_words.new.errors;
    } in
    subst (λ (words : List (List ℕ)). Runs (g.R.Read.remaining c.args.reader) words page w c.run_words.result) (ap (map string_bytes) (c.as_slice.ensures.value ∙ c.in-Ok.ensures)) c.run_words.ensures
