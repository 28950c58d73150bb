use Rattle.std.proofs.Common.{◌≡◌, ◌∙◌, ◌+◌, ◌≤◌, Ok, refl, sym, subst, arith}
use Rattle.journal_audit.specs.declared.verdicts.TheConstants.{MAX_LINES}
use Rattle.journal_audit.specs.declared.verdicts.Cause.TheVariants as cause
use Rattle.journal_audit.specs.declared.verdicts.Verdict.{Verdict}
use Rattle.journal_audit.specs.declared.verdicts.Verdict.TheVariants.{Sound}
use Rattle.journal_audit.specs.Leavings.{LeavesBy}
use Rattle.journal_audit.proofs.JudgeFacts.{SoFar, is_over, is_bad, is_refused, is_over_now, goes_on, ends, same_said, same_line}
use Rattle.journal_audit.proofs.LeftFacts.{over_left, last_left, bad_left, took_more, most_left}
use Rattle.journal_picture.proofs.DrawFacts.{drawn_over, drawn_bad, drawn_refused, drawn_on, drawn_last}
use Rattle.journal_picture.proofs.drawing.draw_steps.Goals as goal

pub draw_step-requires : goal.draw_step-requires
draw_step-requires g c = (c.said_numbers_fit.ensures c.loop-taken.world _ c.in-Ok-read_event.event _ c.in-Ok-step.ensures.exact).1

pub returns-then-ends_no_line : goal.returns-then-ends_no_line
returns-then-ends_no_line g c =
    let few : c.loop-taken.taken ≤ MAX_LINES = omega (arith, c.loop-taken-test.true) in
    record {
      verdict = is_over c.args.world.now c.loop-taken.world c.args.source.now c.loop-taken.source c.read_piece.new.source c.loop-taken.taken c.read_piece.new.piece.items c.in-Ok-read_piece.end c.loop-taken.invariant.so_far few c.in-Ok-read_piece.ensures.line (same_line c.in-Ok-read_piece.end c.read_piece.new.piece.items c.as_slice-line.result.now _ c.as_slice-line.ensures.value (sym c.ends_no_line.ensures ∙ c.if-ends_no_line.true));
      drawn = drawn_over c.args.world.now c.loop-taken.world c.args.source.now c.loop-taken.source c.read_piece.new.source c.loop-taken.taken c.read_piece.new.piece.items c.in-Ok-read_piece.end c.args.drawer c.loop-taken.drawer (g.C.Canvas.drawn c.args.canvas.now) (g.C.Canvas.drawn c.loop-taken.canvas) (Sound c.loop-taken.taken) c.loop-taken.invariant.drawn c.in-Ok-read_piece.ensures.line (same_line c.in-Ok-read_piece.end c.read_piece.new.piece.items c.as_slice-line.result.now _ c.as_slice-line.ensures.value (sym c.ends_no_line.ensures ∙ c.if-ends_no_line.true));
      left = over_left c.args.world.now c.loop-taken.world c.args.source.now c.loop-taken.source c.read_piece.new.source c.loop-taken.taken c.read_piece.new.piece.items c.in-Ok-read_piece.end c.loop-taken.taken c.loop-taken.invariant.left c.in-Ok-read_piece.ensures.line (same_line c.in-Ok-read_piece.end c.read_piece.new.piece.items c.as_slice-line.result.now _ c.as_slice-line.ensures.value (sym c.ends_no_line.ensures ∙ c.if-ends_no_line.true));
    }

pub returns-in-Err-read_event : goal.returns-in-Err-read_event
returns-in-Err-read_event g c = record {
  verdict = is_bad c.args.world.now c.loop-taken.world c.args.source.now c.loop-taken.source c.read_piece.new.source c.loop-taken.taken (c.loop-taken.taken + 1) c.read_piece.new.piece.items c.in-Ok-read_piece.end c.in-Err-read_event.fault c.loop-taken.invariant.so_far refl c.loop-taken-test.true c.in-Ok-read_piece.ensures.line (same_line c.in-Ok-read_piece.end c.read_piece.new.piece.items c.as_slice-line.result.now _ c.as_slice-line.ensures.value (sym c.ends_no_line.ensures ∙ c.if-ends_no_line.false)) (same_said c.read_piece.new.piece.items c.as_slice-line.result.now _ c.as_slice-line.ensures.value (sym c.in-Err-read_event.ensures));
  drawn = drawn_bad c.args.world.now c.loop-taken.world c.args.source.now c.loop-taken.source c.read_piece.new.source c.loop-taken.taken c.read_piece.new.piece.items c.in-Ok-read_piece.end c.in-Err-read_event.fault c.args.drawer c.loop-taken.drawer (g.C.Canvas.drawn c.args.canvas.now) (g.C.Canvas.drawn c.loop-taken.canvas) _ c.loop-taken.invariant.drawn c.in-Ok-read_piece.ensures.line (same_line c.in-Ok-read_piece.end c.read_piece.new.piece.items c.as_slice-line.result.now _ c.as_slice-line.ensures.value (sym c.ends_no_line.ensures ∙ c.if-ends_no_line.false)) (same_said c.read_piece.new.piece.items c.as_slice-line.result.now _ c.as_slice-line.ensures.value (sym c.in-Err-read_event.ensures));
  left = bad_left c.args.world.now c.loop-taken.world c.args.source.now c.loop-taken.source c.read_piece.new.source c.loop-taken.taken (c.loop-taken.taken + 1) c.read_piece.new.piece.items c.in-Ok-read_piece.end (cause.Line c.in-Err-read_event.fault) c.loop-taken.invariant.left refl c.in-Ok-read_piece.ensures.line c.in-Ok-read_piece.ensures.taken c.in-Ok-read_piece.ensures.few;
}

pub returns-in-Ok-refused : goal.returns-in-Ok-refused
returns-in-Ok-refused g c = record {
  verdict = is_refused c.events_are_spelled_once.ensures c.args.world.now c.loop-taken.world c.args.source.now c.loop-taken.source c.read_piece.new.source c.loop-taken.taken (c.loop-taken.taken + 1) c.read_piece.new.piece.items c.in-Ok-read_piece.end c.in-Ok-read_event.event c.in-Err-step.fault (Ok c.in-Ok-refused.verdict) c.loop-taken.invariant.so_far refl c.loop-taken-test.true c.in-Ok-read_piece.ensures.line (same_line c.in-Ok-read_piece.end c.read_piece.new.piece.items c.as_slice-line.result.now _ c.as_slice-line.ensures.value (sym c.ends_no_line.ensures ∙ c.if-ends_no_line.false)) (same_said c.read_piece.new.piece.items c.as_slice-line.result.now _ c.as_slice-line.ensures.value (sym c.in-Ok-read_event.ensures)) c.in-Err-step.ensures.exact.0 c.in-Ok-refused.ensures.verdict tt;
  drawn = drawn_refused c.args.world.now c.loop-taken.world c.step.new.self c.args.source.now c.loop-taken.source c.read_piece.new.source c.loop-taken.taken c.read_piece.new.piece.items c.in-Ok-read_piece.end c.in-Ok-read_event.event c.in-Err-step.fault c.args.drawer c.loop-taken.drawer (g.C.Canvas.drawn c.args.canvas.now) (g.C.Canvas.drawn c.loop-taken.canvas) _ c.loop-taken.invariant.drawn c.in-Ok-read_piece.ensures.line (same_line c.in-Ok-read_piece.end c.read_piece.new.piece.items c.as_slice-line.result.now _ c.as_slice-line.ensures.value (sym c.ends_no_line.ensures ∙ c.if-ends_no_line.false)) (same_said c.read_piece.new.piece.items c.as_slice-line.result.now _ c.as_slice-line.ensures.value (sym c.in-Ok-read_event.ensures)) c.in-Err-step.ensures.exact c.in-Ok-refused.ensures.verdict.1;
  left =
      subst (λ (v : Verdict). LeavesBy c.args.world.now c.args.source.now c.read_piece.new.source v) (sym c.in-Ok-refused.ensures.verdict.0)
      (bad_left c.args.world.now c.loop-taken.world c.args.source.now c.loop-taken.source c.read_piece.new.source c.loop-taken.taken (c.loop-taken.taken + 1) c.read_piece.new.piece.items c.in-Ok-read_piece.end (cause.Refused c.in-Err-step.fault) c.loop-taken.invariant.left refl c.in-Ok-read_piece.ensures.line c.in-Ok-read_piece.ensures.taken c.in-Ok-read_piece.ensures.few);
}

pub returns-then-is_last : goal.returns-then-is_last
returns-then-is_last g c = record {
  verdict = is_over_now c.events_are_spelled_once.ensures c.args.world.now c.loop-taken.world c.step.new.self c.args.source.now c.loop-taken.source c.read_piece.new.source c.loop-taken.taken (c.loop-taken.taken + 1) c.read_piece.new.piece.items c.in-Ok-read_piece.end c.in-Ok-read_event.event c.in-Ok-step.effect c.loop-taken.invariant.so_far refl c.loop-taken-test.true c.in-Ok-read_piece.ensures.line (same_line c.in-Ok-read_piece.end c.read_piece.new.piece.items c.as_slice-line.result.now _ c.as_slice-line.ensures.value (sym c.ends_no_line.ensures ∙ c.if-ends_no_line.false)) (same_said c.read_piece.new.piece.items c.as_slice-line.result.now _ c.as_slice-line.ensures.value (sym c.in-Ok-read_event.ensures)) c.in-Ok-step.ensures.exact (sym c.is_last.ensures ∙ c.if-is_last.true);
  drawn = drawn_last c.args.world.now c.loop-taken.world c.step.new.self c.args.source.now c.loop-taken.source c.read_piece.new.source c.loop-taken.taken c.read_piece.new.piece.items c.in-Ok-read_piece.end c.in-Ok-read_event.event c.in-Ok-step.effect c.args.drawer c.loop-taken.drawer c.in-Ok-draw_step.drawer (g.C.Canvas.drawn c.args.canvas.now) (g.C.Canvas.drawn c.loop-taken.canvas) (g.C.Canvas.drawn c.draw_step.new.canvas) _ c.loop-taken.invariant.drawn c.in-Ok-read_piece.ensures.line (same_line c.in-Ok-read_piece.end c.read_piece.new.piece.items c.as_slice-line.result.now _ c.as_slice-line.ensures.value (sym c.ends_no_line.ensures ∙ c.if-ends_no_line.false)) (same_said c.read_piece.new.piece.items c.as_slice-line.result.now _ c.as_slice-line.ensures.value (sym c.in-Ok-read_event.ensures)) c.in-Ok-step.ensures.exact (sym c.is_last.ensures ∙ c.if-is_last.true) c.in-Ok-draw_step.ensures.drawn c.in-Ok-draw_step.ensures.after;
  left = last_left c.args.world.now c.loop-taken.world c.args.source.now c.loop-taken.source c.read_piece.new.source c.loop-taken.taken c.read_piece.new.piece.items c.in-Ok-read_piece.end (c.loop-taken.taken + 1) c.loop-taken.invariant.left c.in-Ok-read_piece.ensures.line (sym c.is_last.ensures ∙ c.if-is_last.true);
}

pub loop-taken-preserved : goal.loop-taken-preserved
loop-taken-preserved g c = record {
  so_far = goes_on c.events_are_spelled_once.ensures c.args.world.now c.loop-taken.world c.step.new.self c.args.source.now c.loop-taken.source c.read_piece.new.source c.loop-taken.taken c.read_piece.new.piece.items c.in-Ok-read_piece.end c.in-Ok-read_event.event c.in-Ok-step.effect c.loop-taken.invariant.so_far c.in-Ok-read_piece.ensures.line (same_line c.in-Ok-read_piece.end c.read_piece.new.piece.items c.as_slice-line.result.now _ c.as_slice-line.ensures.value (sym c.ends_no_line.ensures ∙ c.if-ends_no_line.false)) (same_said c.read_piece.new.piece.items c.as_slice-line.result.now _ c.as_slice-line.ensures.value (sym c.in-Ok-read_event.ensures)) c.in-Ok-step.ensures.exact (sym c.is_last.ensures ∙ c.if-is_last.false);
  drawn = drawn_on c.args.world.now c.loop-taken.world c.step.new.self c.args.source.now c.loop-taken.source c.read_piece.new.source c.loop-taken.taken c.read_piece.new.piece.items c.in-Ok-read_piece.end c.in-Ok-read_event.event c.in-Ok-step.effect c.args.drawer c.loop-taken.drawer c.in-Ok-draw_step.drawer (g.C.Canvas.drawn c.args.canvas.now) (g.C.Canvas.drawn c.loop-taken.canvas) (g.C.Canvas.drawn c.draw_step.new.canvas) c.loop-taken.invariant.drawn c.in-Ok-read_piece.ensures.line (same_line c.in-Ok-read_piece.end c.read_piece.new.piece.items c.as_slice-line.result.now _ c.as_slice-line.ensures.value (sym c.ends_no_line.ensures ∙ c.if-ends_no_line.false)) (same_said c.read_piece.new.piece.items c.as_slice-line.result.now _ c.as_slice-line.ensures.value (sym c.in-Ok-read_event.ensures)) c.in-Ok-step.ensures.exact (sym c.is_last.ensures ∙ c.if-is_last.false) c.in-Ok-draw_step.ensures.drawn c.in-Ok-draw_step.ensures.after;
  left = took_more c.events_are_spelled_once.ensures c.args.world.now c.loop-taken.world c.step.new.self c.args.source.now c.loop-taken.source c.read_piece.new.source c.loop-taken.taken c.read_piece.new.piece.items c.in-Ok-read_piece.end c.in-Ok-read_event.event c.in-Ok-step.effect c.loop-taken.invariant.left c.in-Ok-read_piece.ensures.taken c.in-Ok-read_piece.ensures.few (same_said c.read_piece.new.piece.items c.as_slice-line.result.now _ c.as_slice-line.ensures.value (sym c.in-Ok-read_event.ensures)) c.in-Ok-step.ensures.exact (sym c.is_last.ensures ∙ c.if-is_last.false);
}

pub returns-in-Ok-end_lines-clause-verdict : goal.returns-in-Ok-end_lines-clause-verdict
returns-in-Ok-end_lines-clause-verdict g c =
    let all : c.loop-taken.taken ≡ MAX_LINES = omega (arith, c.loop-taken-test.false, c.loop-taken.auto.taken-end) in
    ends c.args.world.now c.loop-taken.world c.args.source.now c.loop-taken.source (Ok c.in-Ok-end_lines.verdict)
    (subst (λ n. SoFar c.args.world.now c.args.source.now c.loop-taken.source c.loop-taken.world n) all c.loop-taken.invariant.so_far) c.in-Ok-end_lines.ensures.lines

pub returns-in-Ok-end_lines-clause-left : goal.returns-in-Ok-end_lines-clause-left
returns-in-Ok-end_lines-clause-left g c =
    let all : c.loop-taken.taken ≡ MAX_LINES = omega (arith, c.loop-taken-test.false, c.loop-taken.auto.taken-end) in
    most_left c.args.world.now c.loop-taken.world c.args.source.now c.loop-taken.source c.end_lines.new.source c.loop-taken.taken (Ok c.in-Ok-end_lines.verdict)
    c.loop-taken.invariant.left all c.in-Ok-end_lines.ensures.sound tt c.in-Ok-end_lines.ensures.left
