use Rattle.std.proofs.Common.{◌≡◌, ◌≤◌, ◌+◌, sym, subst, ◌∙◌, refl, arith}
use Rattle.journal_audit.specs.declared.verdicts.TheConstants.{MAX_LINES}
use Rattle.journal_audit.specs.declared.verdicts.Cause.TheVariants as cause
use Rattle.journal_audit.specs.declared.verdicts.Verdict.TheVariants.{Sound, Unsound}
use Rattle.journal_audit.proofs.HearFacts.{nothing_heard, heard_over, heard_bad, heard_refused, heard_on, heard_last, heard_most, no_hearing}
use Rattle.journal_audit.proofs.JudgeFacts.{SoFar, no_write_in, is_over, is_bad, is_refused, is_over_now, goes_on, ends, same_said, same_line, memory_cuts}
use Rattle.journal_audit.proofs.LeftFacts.{none_left, cut_left, over_left, last_left, bad_left, refused_left, took_more, most_left}
use Rattle.journal_audit.proofs.judging.judge_lines.Goals as goal

pub returns-then-ends_no_line-clause-found : goal.returns-then-ends_no_line-clause-found
returns-then-ends_no_line-clause-found g c =
    let few : c.loop-taken.taken ≤ MAX_LINES = omega (arith, c.loop-taken-test.true) in
    is_over c.args.world.now c.loop-taken.world c.args.source.now c.loop-taken.source c.read_piece.new.source c.loop-taken.taken c.read_piece.new.piece.items c.in-Ok-read_piece.end
    c.loop-taken.invariant.so_far few c.in-Ok-read_piece.ensures.line
    (same_line c.in-Ok-read_piece.end c.read_piece.new.piece.items c.as_slice-line.result.now _ c.as_slice-line.ensures.value (sym c.ends_no_line.ensures ∙ c.if-ends_no_line.true))

pub returns-in-Err-read_event-clause-found : goal.returns-in-Err-read_event-clause-found
returns-in-Err-read_event-clause-found g c =
    is_bad c.args.world.now c.loop-taken.world c.args.source.now c.loop-taken.source c.read_piece.new.source c.loop-taken.taken (c.loop-taken.taken + 1) c.read_piece.new.piece.items c.in-Ok-read_piece.end c.in-Err-read_event.fault
    c.loop-taken.invariant.so_far refl c.loop-taken-test.true c.in-Ok-read_piece.ensures.line
    (same_line c.in-Ok-read_piece.end c.read_piece.new.piece.items c.as_slice-line.result.now _ c.as_slice-line.ensures.value (sym c.ends_no_line.ensures ∙ c.if-ends_no_line.false))
    (same_said c.read_piece.new.piece.items c.as_slice-line.result.now _ c.as_slice-line.ensures.value (sym c.in-Err-read_event.ensures))

pub returns-in-Err-step-clause-found : goal.returns-in-Err-step-clause-found
returns-in-Err-step-clause-found g c =
    is_refused c.events_are_spelled_once.ensures c.args.world.now c.loop-taken.world c.args.source.now c.loop-taken.source c.read_piece.new.source c.loop-taken.taken (c.loop-taken.taken + 1)
    c.read_piece.new.piece.items c.in-Ok-read_piece.end c.in-Ok-read_event.event c.in-Err-step.fault c.refused.result
    c.loop-taken.invariant.so_far refl c.loop-taken-test.true c.in-Ok-read_piece.ensures.line
    (same_line c.in-Ok-read_piece.end c.read_piece.new.piece.items c.as_slice-line.result.now _ c.as_slice-line.ensures.value (sym c.ends_no_line.ensures ∙ c.if-ends_no_line.false))
    (same_said c.read_piece.new.piece.items c.as_slice-line.result.now _ c.as_slice-line.ensures.value (sym c.in-Ok-read_event.ensures))
    c.in-Err-step.ensures.exact.0 c.refused.ensures.verdict (memory_cuts c.refused.result c.refused.ensures.memory)

pub returns-then-is_last-clause-found : goal.returns-then-is_last-clause-found
returns-then-is_last-clause-found g c =
    is_over_now c.events_are_spelled_once.ensures c.args.world.now c.loop-taken.world c.step.new.self c.args.source.now c.loop-taken.source c.read_piece.new.source c.loop-taken.taken (c.loop-taken.taken + 1)
    c.read_piece.new.piece.items c.in-Ok-read_piece.end c.in-Ok-read_event.event c.in-Ok-step.effect
    c.loop-taken.invariant.so_far refl c.loop-taken-test.true c.in-Ok-read_piece.ensures.line
    (same_line c.in-Ok-read_piece.end c.read_piece.new.piece.items c.as_slice-line.result.now _ c.as_slice-line.ensures.value (sym c.ends_no_line.ensures ∙ c.if-ends_no_line.false))
    (same_said c.read_piece.new.piece.items c.as_slice-line.result.now _ c.as_slice-line.ensures.value (sym c.in-Ok-read_event.ensures))
    c.in-Ok-step.ensures.exact (sym c.is_last.ensures ∙ c.if-is_last.true)

pub loop-taken-preserved : goal.loop-taken-preserved
loop-taken-preserved g c = record {
  so_far = goes_on c.events_are_spelled_once.ensures c.args.world.now c.loop-taken.world c.step.new.self c.args.source.now c.loop-taken.source c.read_piece.new.source c.loop-taken.taken
      c.read_piece.new.piece.items c.in-Ok-read_piece.end c.in-Ok-read_event.event c.in-Ok-step.effect
      c.loop-taken.invariant.so_far c.in-Ok-read_piece.ensures.line
      (same_line c.in-Ok-read_piece.end c.read_piece.new.piece.items c.as_slice-line.result.now _ c.as_slice-line.ensures.value (sym c.ends_no_line.ensures ∙ c.if-ends_no_line.false))
      (same_said c.read_piece.new.piece.items c.as_slice-line.result.now _ c.as_slice-line.ensures.value (sym c.in-Ok-read_event.ensures))
      c.in-Ok-step.ensures.exact (sym c.is_last.ensures ∙ c.if-is_last.false);
  took = took_more c.events_are_spelled_once.ensures c.args.world.now c.loop-taken.world c.step.new.self c.args.source.now c.loop-taken.source c.read_piece.new.source c.loop-taken.taken
      c.read_piece.new.piece.items c.in-Ok-read_piece.end c.in-Ok-read_event.event c.in-Ok-step.effect
      c.loop-taken.invariant.took c.in-Ok-read_piece.ensures.taken c.in-Ok-read_piece.ensures.few
      (same_said c.read_piece.new.piece.items c.as_slice-line.result.now _ c.as_slice-line.ensures.value (sym c.in-Ok-read_event.ensures))
      c.in-Ok-step.ensures.exact (sym c.is_last.ensures ∙ c.if-is_last.false);
  heard = heard_on c.args.world.now c.loop-taken.world c.step.new.self c.args.source.now c.loop-taken.source c.read_piece.new.source c.read_piece.new.piece.items c.in-Ok-read_piece.end c.in-Ok-read_event.event c.in-Ok-step.effect
      (g.V.Watcher.heard c.args.watcher.now) (g.V.Watcher.heard c.loop-taken.watcher) (g.V.Watcher.heard c.see_event.new.self)
      c.loop-taken.invariant.heard c.in-Ok-read_piece.ensures.line
      (same_line c.in-Ok-read_piece.end c.read_piece.new.piece.items c.as_slice-line.result.now _ c.as_slice-line.ensures.value (sym c.ends_no_line.ensures ∙ c.if-ends_no_line.false))
      (same_said c.read_piece.new.piece.items c.as_slice-line.result.now _ c.as_slice-line.ensures.value (sym c.in-Ok-read_event.ensures))
      c.in-Ok-step.ensures.exact c.see_event.ensures (sym c.is_last.ensures ∙ c.if-is_last.false);
}

pub returns-clause-found : goal.returns-clause-found
returns-clause-found g c =
    let all : c.loop-taken.taken ≡ MAX_LINES = omega (arith, c.loop-taken-test.false, c.loop-taken.auto.taken-end) in
    ends c.args.world.now c.loop-taken.world c.args.source.now c.loop-taken.source c.end_lines.result
    (subst (λ n. SoFar c.args.world.now c.args.source.now c.loop-taken.source c.loop-taken.world n) all c.loop-taken.invariant.so_far) c.end_lines.ensures.lines

pub returns-in-Err-step-clause-fault : goal.returns-in-Err-step-clause-fault
returns-in-Err-step-clause-fault g c = no_write_in c.refused.result c.refused.ensures.memory

pub returns-in-Err-clause-left : goal.returns-in-Err-clause-left
returns-in-Err-clause-left g c =
    cut_left c.args.world.now c.loop-taken.world c.args.source.now c.loop-taken.source c.read_piece.new.source c.loop-taken.taken c.read_piece.new.piece.items c.in-Err.fault
    c.loop-taken.invariant.took c.in-Err.ensures.fault c.in-Err.ensures.taken c.in-Err.ensures.few c.in-Err.ensures.more

pub returns-then-ends_no_line-clause-left : goal.returns-then-ends_no_line-clause-left
returns-then-ends_no_line-clause-left g c =
    over_left c.args.world.now c.loop-taken.world c.args.source.now c.loop-taken.source c.read_piece.new.source c.loop-taken.taken c.read_piece.new.piece.items c.in-Ok-read_piece.end c.loop-taken.taken c.loop-taken.invariant.took c.in-Ok-read_piece.ensures.line
    (same_line c.in-Ok-read_piece.end c.read_piece.new.piece.items c.as_slice-line.result.now _ c.as_slice-line.ensures.value (sym c.ends_no_line.ensures ∙ c.if-ends_no_line.true))

pub returns-in-Err-read_event-clause-left : goal.returns-in-Err-read_event-clause-left
returns-in-Err-read_event-clause-left g c =
    bad_left c.args.world.now c.loop-taken.world c.args.source.now c.loop-taken.source c.read_piece.new.source c.loop-taken.taken (c.loop-taken.taken + 1) c.read_piece.new.piece.items c.in-Ok-read_piece.end (cause.Line c.in-Err-read_event.fault)
    c.loop-taken.invariant.took refl c.in-Ok-read_piece.ensures.line c.in-Ok-read_piece.ensures.taken c.in-Ok-read_piece.ensures.few

pub returns-in-Err-step-clause-left : goal.returns-in-Err-step-clause-left
returns-in-Err-step-clause-left g c =
    refused_left c.events_are_spelled_once.ensures c.steps_change_one_part.ensures.memory c.args.world.now c.loop-taken.world c.args.source.now c.loop-taken.source c.read_piece.new.source c.loop-taken.taken (c.loop-taken.taken + 1)
    c.read_piece.new.piece.items c.in-Ok-read_piece.end c.in-Ok-read_event.event c.in-Err-step.fault c.refused.result
    c.loop-taken.invariant.took refl c.loop-taken-test.true c.in-Ok-read_piece.ensures.line c.in-Ok-read_piece.ensures.taken c.in-Ok-read_piece.ensures.few
    (same_said c.read_piece.new.piece.items c.as_slice-line.result.now _ c.as_slice-line.ensures.value (sym c.in-Ok-read_event.ensures))
    c.in-Err-step.ensures.exact.0 c.refused.ensures.verdict c.refused.ensures.memory c.refused.ensures.wanting

pub returns-then-is_last-clause-left : goal.returns-then-is_last-clause-left
returns-then-is_last-clause-left g c =
    last_left c.args.world.now c.loop-taken.world c.args.source.now c.loop-taken.source c.read_piece.new.source c.loop-taken.taken c.read_piece.new.piece.items c.in-Ok-read_piece.end (c.loop-taken.taken + 1) c.loop-taken.invariant.took c.in-Ok-read_piece.ensures.line (sym c.is_last.ensures ∙ c.if-is_last.true)

pub returns-clause-left : goal.returns-clause-left
returns-clause-left g c =
    let all : c.loop-taken.taken ≡ MAX_LINES = omega (arith, c.loop-taken-test.false, c.loop-taken.auto.taken-end) in
    most_left c.args.world.now c.loop-taken.world c.args.source.now c.loop-taken.source c.end_lines.new.source c.loop-taken.taken c.end_lines.result
    c.loop-taken.invariant.took all c.end_lines.ensures.sound c.end_lines.ensures.fault c.end_lines.ensures.left

pub returns-in_default-clause-left : goal.returns-in_default-clause-left
returns-in_default-clause-left g c = none_left c.args.world.now c.args.source.now

pub returns-then-ends_no_line-clause-heard : goal.returns-then-ends_no_line-clause-heard
returns-then-ends_no_line-clause-heard g c =
    heard_over c.args.world.now c.loop-taken.world c.args.source.now c.loop-taken.source c.read_piece.new.source c.read_piece.new.piece.items c.in-Ok-read_piece.end
    (g.V.Watcher.heard c.args.watcher.now) (g.V.Watcher.heard c.loop-taken.watcher) (Sound c.loop-taken.taken) c.loop-taken.invariant.heard c.in-Ok-read_piece.ensures.line
    (same_line c.in-Ok-read_piece.end c.read_piece.new.piece.items c.as_slice-line.result.now _ c.as_slice-line.ensures.value (sym c.ends_no_line.ensures ∙ c.if-ends_no_line.true))

pub returns-in-Err-read_event-clause-heard : goal.returns-in-Err-read_event-clause-heard
returns-in-Err-read_event-clause-heard g c =
    heard_bad c.args.world.now c.loop-taken.world c.args.source.now c.loop-taken.source c.read_piece.new.source c.read_piece.new.piece.items c.in-Ok-read_piece.end c.in-Err-read_event.fault
    (g.V.Watcher.heard c.args.watcher.now) (g.V.Watcher.heard c.loop-taken.watcher) (g.V.Watcher.heard c.see_bad.new.self) (Unsound (c.loop-taken.taken + 1) (cause.Line c.in-Err-read_event.fault)) c.loop-taken.invariant.heard c.in-Ok-read_piece.ensures.line
    (same_line c.in-Ok-read_piece.end c.read_piece.new.piece.items c.as_slice-line.result.now _ c.as_slice-line.ensures.value (sym c.ends_no_line.ensures ∙ c.if-ends_no_line.false))
    (same_said c.read_piece.new.piece.items c.as_slice-line.result.now _ c.as_slice-line.ensures.value (sym c.in-Err-read_event.ensures))
    c.see_bad.ensures

pub returns-in-Err-step-clause-heard : goal.returns-in-Err-step-clause-heard
returns-in-Err-step-clause-heard g c =
    heard_refused c.args.world.now c.loop-taken.world c.args.source.now c.loop-taken.source c.read_piece.new.source (c.loop-taken.taken + 1) c.read_piece.new.piece.items c.in-Ok-read_piece.end c.in-Ok-read_event.event c.in-Err-step.fault
    (g.V.Watcher.heard c.args.watcher.now) (g.V.Watcher.heard c.loop-taken.watcher) (g.V.Watcher.heard c.see_event-in-Err-step.new.self) c.refused.result c.loop-taken.invariant.heard c.in-Ok-read_piece.ensures.line
    (same_line c.in-Ok-read_piece.end c.read_piece.new.piece.items c.as_slice-line.result.now _ c.as_slice-line.ensures.value (sym c.ends_no_line.ensures ∙ c.if-ends_no_line.false))
    (same_said c.read_piece.new.piece.items c.as_slice-line.result.now _ c.as_slice-line.ensures.value (sym c.in-Ok-read_event.ensures))
    c.in-Err-step.ensures.exact.0 c.see_event-in-Err-step.ensures c.refused.ensures.verdict

pub returns-then-is_last-clause-heard : goal.returns-then-is_last-clause-heard
returns-then-is_last-clause-heard g c =
    heard_last c.args.world.now c.loop-taken.world c.step.new.self c.args.source.now c.loop-taken.source c.read_piece.new.source c.read_piece.new.piece.items c.in-Ok-read_piece.end c.in-Ok-read_event.event c.in-Ok-step.effect
    (g.V.Watcher.heard c.args.watcher.now) (g.V.Watcher.heard c.loop-taken.watcher) (g.V.Watcher.heard c.see_event.new.self) (Sound (c.loop-taken.taken + 1))
    c.loop-taken.invariant.heard c.in-Ok-read_piece.ensures.line
    (same_line c.in-Ok-read_piece.end c.read_piece.new.piece.items c.as_slice-line.result.now _ c.as_slice-line.ensures.value (sym c.ends_no_line.ensures ∙ c.if-ends_no_line.false))
    (same_said c.read_piece.new.piece.items c.as_slice-line.result.now _ c.as_slice-line.ensures.value (sym c.in-Ok-read_event.ensures))
    c.in-Ok-step.ensures.exact c.see_event.ensures (sym c.is_last.ensures ∙ c.if-is_last.true)

pub returns-clause-heard : goal.returns-clause-heard
returns-clause-heard g c =
    heard_most c.args.world.now c.loop-taken.world c.args.source.now c.loop-taken.source (g.V.Watcher.heard c.args.watcher.now) (g.V.Watcher.heard c.loop-taken.watcher) c.end_lines.result c.loop-taken.invariant.heard c.end_lines.ensures.lines

pub returns-in_default-clause-heard : goal.returns-in_default-clause-heard
returns-in_default-clause-heard g c = no_hearing c.args.world.now c.args.source.now (g.V.Watcher.heard c.args.watcher.now) (g.V.Watcher.heard c.args.watcher.now) _

pub returns-in-Err-clause-heard : goal.returns-in-Err-clause-heard
returns-in-Err-clause-heard g c = no_hearing c.args.world.now c.args.source.now (g.V.Watcher.heard c.args.watcher.now) (g.V.Watcher.heard c.loop-taken.watcher) c.in-Err.fault
