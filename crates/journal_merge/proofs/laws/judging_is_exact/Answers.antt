use Rattle.journal_merge.proofs.MergingFacts.{judging-goes-on, judged-have-merge, refused-are-judged, waiting-are-judged}
use Rattle.journal_merge.proofs.laws.judging_is_exact.Goals as goal

pub returns-clause-taking : goal.returns-clause-taking
returns-clause-taking c = judging-goes-on

pub returns-clause-merged : goal.returns-clause-merged
returns-clause-merged c = judged-have-merge

pub returns-clause-refused : goal.returns-clause-refused
returns-clause-refused c = refused-are-judged c.one_spelling.ensures

pub returns-clause-waiting : goal.returns-clause-waiting
returns-clause-waiting c = waiting-are-judged c.one_spelling.ensures
