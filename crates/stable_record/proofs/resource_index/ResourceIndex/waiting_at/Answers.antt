use Rattle.std.proofs.Common.{ap, ◌∙◌, slice_get, List, ℕ}
use Rattle.stable_record.specs.Lines.{or_none}
use Rattle.stable_record.proofs.QuestionFacts.{asked-at}
use Rattle.stable_record.proofs.resource_index.ResourceIndex.waiting_at.Goals as goal

pub returns-in_err-line : goal.returns-in_err-line
returns-in_err-line c a es h =
    let i = c.args.place in
    c.from_residual.ensures ∙ ap (λ o. slice_get (or_none o).waiting i) c.in_err-line.ensures ∙ asked-at a c.args.self.now es h c.args.resource.now i

pub returns : goal.returns
returns c a es h =
    let i = c.args.place in
    c.client_at.ensures ∙ ap (λ (l : List ℕ). slice_get l i) c.waiting.ensures
    ∙ ap (λ o. slice_get (or_none o).waiting i) c.in_ok-line.ensures ∙ asked-at a c.args.self.now es h c.args.resource.now i
