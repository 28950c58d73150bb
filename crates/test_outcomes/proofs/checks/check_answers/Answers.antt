use Rattle.std.proofs.Common.{rules}
use Rattle.test_outcomes.proofs.Answering.{first, all}
use Rattle.test_outcomes.proofs.checks.check_answers.Goals as goal

pub returns-in_err-check_answer-clause-fails : goal.returns-in_err-check_answer-clause-fails
returns-in_err-check_answer-clause-fails c =
    let told = first c.args.answers.now c.loop-row.row c.in_err-check_answer.field-0.0 c.loop-row-test.true c.loop-row.invariant c.in_err-check_answer.ensures.fails in
    search (rules, told)

pub returns-clause-passes : goal.returns-clause-passes
returns-clause-passes c = all c.args.answers.now c.loop-row.row c.loop-row-test.false c.loop-row.invariant
