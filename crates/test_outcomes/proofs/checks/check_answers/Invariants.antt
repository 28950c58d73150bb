-- So far each answer is right.

use Rattle.std.proofs.Common.{take, All}
use Rattle.test_outcomes.specs.Answers.{IsRight}
use Rattle.test_outcomes.proofs.checks.check_answers.Given as goal

abbrev pub invariant-loop-row : goal.invariant-loop-row
invariant-loop-row l = All IsRight (take l.row l.answers)
