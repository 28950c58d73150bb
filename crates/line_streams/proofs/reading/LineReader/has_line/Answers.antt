use Rattle.std.proofs.Common.{◌≡◌, ◌∙◌, true, List, ℕ, Option, IfSome, sym, subst}
use Rattle.std.specs.List.{list_any}
use Rattle.line_streams.specs.Streams.{is_line_feed}
use Rattle.line_streams.proofs.StreamFacts.{has_line_left}
use Rattle.line_streams.proofs.reading.LineReader.has_line.Goals as goal

pub returns : goal.returns
returns g c h =
    let s = c.self.inside in
    subst (λ (left : Option (List ℕ)). IfSome left (λ xs. list_any is_line_feed xs ≡ true)) c.self.view_is
    (has_line_left s.ahead (g.R.Read.remaining s.reader) (sym c.has_feed.ensures ∙ h))
