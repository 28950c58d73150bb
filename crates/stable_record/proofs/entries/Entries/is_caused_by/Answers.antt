use Rattle.std.proofs.Common.{ap, sym, ◌∙◌, subst}
use Rattle.stable_record.specs.Lines.{Indexes}
use Rattle.lock_model.specs.Judgement.{is_caused}
use Rattle.stable_record.proofs.JudgingFacts.{caused-by-line}
use Rattle.stable_record.proofs.entries.Entries.is_caused_by.Goals as goal

pub returns : goal.returns
returns c =
    let es = c.deref.result.now in
    let lines = c.args.index.now in
    let same = c.deref.ensures.value ∙ c.self.view_is in
    c.is_caused_by.ensures ∙ caused-by-line c.args.problem lines es (subst (Indexes lines) (sym same) c.requires) ∙ ap (is_caused c.args.problem) same
