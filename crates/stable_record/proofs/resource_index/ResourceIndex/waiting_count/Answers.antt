use Rattle.std.proofs.Common.{ap, sym, ◌∙◌, length}
use Rattle.std.specs.Option.{option_copied}
use Rattle.stable_record.specs.Lines.{or_none}
use Rattle.stable_record.proofs.QuestionFacts.{asked-count}
use Rattle.stable_record.proofs.resource_index.ResourceIndex.waiting_count.Goals as goal

pub returns-in-None : goal.returns-in-None
returns-in-None c es h =
    sym (ap (λ o. length (or_none o).waiting) (sym c.line.ensures ∙ ap option_copied c.in-None.is)) ∙ asked-count c.args.self.now es h c.args.resource.now
