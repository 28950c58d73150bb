use Rattle.std.proofs.Common.{◌+◌, refl, ap, ◌∙◌, arith}
use Rattle.std.specs.Str.Parse.{digits_value}
use Rattle.std.proofs.lemmas.List.{take_all}
use Rattle.event_lines.proofs.NumberFacts.{digit-more, too-great}
use Rattle.event_lines.proofs.words.value_of.Goals as goal

pub loop-digit-init : goal.loop-digit-init
loop-digit-init c = (refl, omega arith)

pub overflow_mul-number : goal.overflow_mul-number
overflow_mul-number c = omega (arith, c.loop-digit.invariant.1)

pub overflow_add-number : goal.overflow_add-number
overflow_add-number c = omega (arith, c.loop-digit.invariant.1)

pub returns-then-number-from-clause-none : goal.returns-then-number-from-clause-none
returns-then-number-from-clause-none c =
    let at = c.loop-digit.digit-index in
    let more = digit-more c.args.digits.now at c.requires c.loop-digit-test.true in
    too-great c.args.digits.now (at + 1) c.args.most (omega (arith, more, c.loop-digit.invariant.0, c.from.ensures, c.if-number-from.true))

pub loop-digit-preserved : goal.loop-digit-preserved
loop-digit-preserved c =
    let more = digit-more c.args.digits.now c.loop-digit.digit-index c.requires c.loop-digit-test.true in
    (omega (arith, more, c.loop-digit.invariant.0, c.from.ensures), omega (arith, c.if-number-from.false))

pub overflow_cast-result : goal.overflow_cast-result
overflow_cast-result c = omega (arith, c.loop-digit.invariant.1)

pub returns-clause-value : goal.returns-clause-value
returns-clause-value c =
    let all = take_all c.loop-digit.digit-index c.args.digits.now (omega (arith, c.loop-digit-test.false)) in
    (c.loop-digit.invariant.0 ∙ ap (digits_value 10) all, c.loop-digit.invariant.1)
