use Rattle.own_journals.proofs.lines.ends_in_life.Goals as goal

pub returns : goal.returns
returns c = c.ends_with.ensures.value
