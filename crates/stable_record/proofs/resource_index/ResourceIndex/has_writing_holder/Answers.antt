use Rattle.std.proofs.Common.{ap, sym, ◌∙◌, nat_lt}
use Rattle.std.specs.Option.{option_copied}
use Rattle.stable_record.specs.Lines.{or_none}
use Rattle.stable_record.proofs.QuestionFacts.{asked-writing}
use Rattle.stable_record.proofs.resource_index.ResourceIndex.has_writing_holder.Goals as goal

pub returns-in-None : goal.returns-in-None
returns-in-None c a es h =
    sym (ap (λ o. nat_lt 0 (or_none o).writing_holders) (sym c.line.ensures ∙ ap option_copied c.in-None.is)) ∙ asked-writing a c.args.self.now es h c.args.resource.now

pub returns-in-Some : goal.returns-in-Some
returns-in-Some c a es h =
    c.has_writing_holder.ensures
    ∙ sym (ap (λ o. nat_lt 0 (or_none o).writing_holders) (sym c.line.ensures ∙ ap option_copied c.in-Some.is)) ∙ asked-writing a c.args.self.now es h c.args.resource.now
