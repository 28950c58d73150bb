use Rattle.std.proofs.Common.{◌≡◌, ◌∙◌, true, false, ap, inl, Some, Ok}
use Rattle.lock_model.specs.declared.problems.Problem.{Problem}
use Rattle.switch_lines.proofs.SwitchFacts.{starts, is_first}
use Rattle.switch_lines.proofs.lines.read_switch.Goals as goal

pub returns-then-not-starts_with-clause-only : goal.returns-then-not-starts_with-clause-only
returns-then-not-starts_with-clause-only c = λ problem is.
    let text = c.as_bytes.ensures.value ∙ c.in_ok-beginning.ensures in
    let begins = starts c.args.secret.now c.args.node problem c.args.line.now c.as_bytes.result.now c.starts_with.result text c.starts_with.ensures.value is in
    absurd (cc)

pub returns-then-branch-clause-only : goal.returns-then-branch-clause-only
returns-then-branch-clause-only c = λ problem is.
    let first = c.in_ok-is_switch.ensures.0 c.if-branch.true in
    inl (ap (λ (p : Problem). Ok (Some p)) (is_first c.args.secret.now c.args.node c.args.line.now problem first is))
