use Rattle.std.proofs.Common.{◌∙◌, sym, arith, get_or}
use Rattle.event_lines.proofs.NumberFacts.{IsDigits, no_other_byte, no_leading_zero, out_of_range, spelled_so, is_zero_digit, is_no_zero_digit, some_digit}
use Rattle.event_lines.proofs.words.number_of.Goals as goal
use Rattle.event_lines.proofs.words.number_of.Goals.{then-not-has_digits-via-then-not-has_digits, then-not-has_digits-via-else-not-has_digits+then-begins_with_zero}

pub returns-then-not-has_digits-clause-number : goal.returns-then-not-has_digits-clause-number
returns-then-not-has_digits-clause-number c =
    elim c.then-not-has_digits.branch [
      | then-not-has_digits-via-then-not-has_digits w ↦ no_other_byte c.args.most c.args.word.now (omega arith) (sym c.has_digits.ensures ∙ w.if-not-has_digits.true)
      | then-not-has_digits-via-else-not-has_digits+then-begins_with_zero w ↦
          no_leading_zero c.args.most c.args.word.now (omega arith) (is_zero_digit (get_or c.args.word.now 0 0) w.begins_with_zero.result w.begins_with_zero.ensures w.if-begins_with_zero.true)
    ]

pub returns-in_err-number-clause-number : goal.returns-in_err-number-clause-number
returns-in_err-number-clause-number c =
    let above = c.in_err-number.ensures.none in
    c.from_residual.ensures ∙ out_of_range c.args.most c.args.word.now (λ low high. omega (arith, above))

pub returns-then-number-lt1-clause-number : goal.returns-then-number-lt1-clause-number
returns-then-number-lt1-clause-number c =
    let value = c.in_ok-number.ensures.value in
    out_of_range c.args.most c.args.word.now (λ low high. omega (arith, value.0, c.if-number-lt1.true))

pub returns-clause-number : goal.returns-clause-number
returns-clause-number c =
    let value = c.in_ok-number.ensures.value in
    let digits : IsDigits c.args.word.now = sym c.has_digits.ensures ∙ c.if-not-has_digits.false in
    spelled_so c.args.most c.args.word.now c.in_ok-number.number (omega arith) value.0 (omega (arith, c.if-number-lt1.false)) value.1 digits
    (some_digit c.args.word.now (omega (arith, value.0, c.if-number-lt1.false)))
    (is_no_zero_digit (get_or c.args.word.now 0 0) c.begins_with_zero.result c.begins_with_zero.ensures c.if-begins_with_zero.false)
