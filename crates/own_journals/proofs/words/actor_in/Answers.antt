use Rattle.std.proofs.Common.{◌∙◌}
use Rattle.own_journals.proofs.words.actor_in.Goals as goal

pub returns-in-Some : goal.returns-in-Some
returns-in-Some c = c.trying_by.ensures c.args.word.now (c.as_slice.ensures.value ∙ rw c.in-Some.is at c.short_try.ensures)

pub returns-in-Ok : goal.returns-in-Ok
returns-in-Ok c = c.trying_by-in-Ok.ensures c.args.word.now (c.as_slice-in-Ok.ensures.value ∙ rw c.in-Ok.is at c.long_try.ensures)
