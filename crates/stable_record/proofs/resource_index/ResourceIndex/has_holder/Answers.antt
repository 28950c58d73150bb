use Rattle.std.proofs.Common.{ap, sym, ◌∙◌, nat_lt}
use Rattle.std.specs.Option.{option_copied}
use Rattle.stable_record.specs.Lines.{or_none}
use Rattle.stable_record.proofs.QuestionFacts.{asked-holder}
use Rattle.stable_record.proofs.resource_index.ResourceIndex.has_holder.Goals as goal

pub returns-in-None : goal.returns-in-None
returns-in-None c a es h =
    sym (ap (λ o. nat_lt 0 (or_none o).holders) (sym c.line.ensures ∙ ap option_copied c.in-None.is)) ∙ asked-holder a c.args.self.now es h c.args.resource.now

pub returns-in-Some : goal.returns-in-Some
returns-in-Some c a es h =
    ap (λ n. nat_lt 0 n) c.holders.ensures
    ∙ sym (ap (λ o. nat_lt 0 (or_none o).holders) (sym c.line.ensures ∙ ap option_copied c.in-Some.is)) ∙ asked-holder a c.args.self.now es h c.args.resource.now
