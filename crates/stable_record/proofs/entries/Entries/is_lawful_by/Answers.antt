use Rattle.std.proofs.Common.{ap, sym, ◌∙◌, subst}
use Rattle.lock_model.specs.ExactStations.{EachOnce}
use Rattle.lock_model.specs.Judgement.{is_lawful}
use Rattle.stable_record.specs.Lines.{Indexes}
use Rattle.stable_record.proofs.JudgingFacts.{lawful-by-line}
use Rattle.stable_record.proofs.entries.Entries.is_lawful_by.Goals as goal

pub returns : goal.returns
returns c =
    let es = c.deref.result.now in
    let lines = c.args.index.now in
    let same = c.deref.ensures.value ∙ c.self.view_is in
    c.is_lawful_by.ensures
    ∙ lawful-by-line lines es (subst (Indexes lines) (sym same) c.requires) (subst EachOnce (sym same) c.len-len.ensures.once) ∙ ap is_lawful same
