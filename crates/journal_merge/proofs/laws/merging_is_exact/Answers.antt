use Rattle.journal_merge.proofs.MergingFacts.{taking-goes-on, merged-have-merge, refused-have-none, waiting-have-none}
use Rattle.journal_merge.proofs.laws.merging_is_exact.Goals as goal

pub returns-clause-taking : goal.returns-clause-taking
returns-clause-taking c = taking-goes-on c.steps_change_one_part.ensures.changes c.steps_change_one_part.ensures.effects c.steps_change_one_part.ensures.messages

pub returns-clause-merged : goal.returns-clause-merged
returns-clause-merged c = merged-have-merge c.steps_change_one_part.ensures.changes c.steps_change_one_part.ensures.effects c.steps_change_one_part.ensures.messages

pub returns-clause-refused : goal.returns-clause-refused
returns-clause-refused c = refused-have-none c.steps_change_one_part.ensures.changes c.steps_change_one_part.ensures.effects c.steps_change_one_part.ensures.messages c.one_spelling.ensures

pub returns-clause-waiting : goal.returns-clause-waiting
returns-clause-waiting c = waiting-have-none c.steps_change_one_part.ensures.changes c.steps_change_one_part.ensures.effects c.steps_change_one_part.ensures.messages c.one_spelling.ensures
