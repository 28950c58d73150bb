use Rattle.std.proofs.Common.{◌∙◌, sym}
use Rattle.line_streams.specs.Streams.{with_gathered}
use Rattle.line_streams.proofs.StreamFacts.{grows_on}
use Rattle.operator_cli.specs.declared.faults.ServeFault.TheVariants as fault
use Rattle.operator_cli.proofs.HearFacts.{heard_over, heard_bad, heard_on, heard_last, no_hearing}
use Rattle.operator_cli.specs.Hearing.{script_words}
use Rattle.operator_cli.proofs.ScriptFacts.{so_far_kept, stops, is_over, is_bad, breaks, goes_on, is_over_now, same_said}
use Rattle.journal_audit.proofs.JudgeFacts.{same_line}
use Rattle.operator_cli.proofs.script.tell_lines.Goals as goal

pub returns-in-Err-clause-told : goal.returns-in-Err-clause-told
returns-in-Err-clause-told g c =
    let put = g.W.Write.contents in
    let old = with_gathered (put c.args.writer.now) c.args.out.now in
    let mid = with_gathered (put c.next_line.new.writer) c.next_line.new.out in
    let h = so_far_kept c.args.world.now c.loop-number.world c.args.source.now c.loop-number.source old (with_gathered (put c.loop-number.writer) c.loop-number.out) mid c.loop-number.refused c.loop-number.number c.loop-number.invariant.so_far c.in-Err.ensures.kept in
    stops c.args.world.now c.loop-number.world c.args.source.now c.loop-number.source old mid c.loop-number.refused c.loop-number.number c.in-Err.fault h

pub returns-in-Err-clause-grows : goal.returns-in-Err-clause-grows
returns-in-Err-clause-grows g c = grows_on _ _ _ c.loop-number.invariant.grown c.in-Err.ensures.grows

pub returns-then-ends_no_line-clause-told : goal.returns-then-ends_no_line-clause-told
returns-then-ends_no_line-clause-told g c =
    let put = g.W.Write.contents in
    let old = with_gathered (put c.args.writer.now) c.args.out.now in
    let mid = with_gathered (put c.next_line.new.writer) c.next_line.new.out in
    let h = so_far_kept c.args.world.now c.loop-number.world c.args.source.now c.loop-number.source old (with_gathered (put c.loop-number.writer) c.loop-number.out) mid c.loop-number.refused c.loop-number.number c.loop-number.invariant.so_far c.in-Ok.ensures.kept in
    is_over c.args.world.now c.loop-number.world c.args.source.now c.loop-number.source c.next_line.new.source old mid
    c.loop-number.refused c.loop-number.number c.next_line.new.piece.items c.in-Ok.end c.status_of.result h c.in-Ok.ensures.line
    (same_line c.in-Ok.end c.next_line.new.piece.items c.as_slice-bytes.result.now _ c.as_slice-bytes.ensures.value (sym c.ends_no_line.ensures ∙ c.if-ends_no_line.true)) c.status_of.ensures

pub returns-then-ends_no_line-clause-grows : goal.returns-then-ends_no_line-clause-grows
returns-then-ends_no_line-clause-grows g c = grows_on _ _ _ c.loop-number.invariant.grown c.in-Ok.ensures.grows

pub returns-in-Err-read_line-clause-told : goal.returns-in-Err-read_line-clause-told
returns-in-Err-read_line-clause-told g c =
    let put = g.W.Write.contents in
    let old = with_gathered (put c.args.writer.now) c.args.out.now in
    let mid = with_gathered (put c.next_line.new.writer) c.next_line.new.out in
    let h = so_far_kept c.args.world.now c.loop-number.world c.args.source.now c.loop-number.source old (with_gathered (put c.loop-number.writer) c.loop-number.out) mid c.loop-number.refused c.loop-number.number c.loop-number.invariant.so_far c.in-Ok.ensures.kept in
    is_bad c.args.world.now c.loop-number.world c.args.source.now c.loop-number.source c.next_line.new.source old mid (with_gathered (put c.tell_fault.new.writer) c.tell_fault.new.out)
    c.loop-number.refused c.loop-number.number c.next_line.new.piece.items c.in-Ok.end c.in-Err-read_line.fault c.tell_fault.result h c.in-Ok.ensures.line
    (same_line c.in-Ok.end c.next_line.new.piece.items c.as_slice-bytes.result.now _ c.as_slice-bytes.ensures.value (sym c.ends_no_line.ensures ∙ c.if-ends_no_line.false))
    (same_said c.next_line.new.piece.items c.as_slice-bytes.result.now _ c.as_slice-bytes.ensures.value (sym c.in-Err-read_line.ensures)) c.tell_fault.ensures.told

pub returns-in-Err-read_line-clause-grows : goal.returns-in-Err-read_line-clause-grows
returns-in-Err-read_line-clause-grows g c = grows_on _ _ _ (grows_on _ _ _ c.loop-number.invariant.grown c.in-Ok.ensures.grows) c.tell_fault.ensures.grows

pub returns-in-Err-tell-clause-told : goal.returns-in-Err-tell-clause-told
returns-in-Err-tell-clause-told g c =
    let put = g.W.Write.contents in
    let old = with_gathered (put c.args.writer.now) c.args.out.now in
    let mid = with_gathered (put c.next_line.new.writer) c.next_line.new.out in
    let h = so_far_kept c.args.world.now c.loop-number.world c.args.source.now c.loop-number.source old (with_gathered (put c.loop-number.writer) c.loop-number.out) mid c.loop-number.refused c.loop-number.number c.loop-number.invariant.so_far c.in-Ok.ensures.kept in
    breaks c.args.world.now c.loop-number.world c.args.source.now c.loop-number.source c.next_line.new.source old mid (with_gathered (put c.tell.new.writer) c.tell.new.out)
    c.loop-number.refused c.loop-number.number c.next_line.new.piece.items c.in-Ok.end c.in-Ok-read_line.line c.tell.new.world c.in-Err-tell.fault c.in-Err-tell.fault h c.in-Ok.ensures.line
    (same_line c.in-Ok.end c.next_line.new.piece.items c.as_slice-bytes.result.now _ c.as_slice-bytes.ensures.value (sym c.ends_no_line.ensures ∙ c.if-ends_no_line.false))
    (same_said c.next_line.new.piece.items c.as_slice-bytes.result.now _ c.as_slice-bytes.ensures.value (sym c.in-Ok-read_line.ensures)) c.in-Err-tell.ensures.told

pub returns-in-Err-tell-clause-grows : goal.returns-in-Err-tell-clause-grows
returns-in-Err-tell-clause-grows g c = grows_on _ _ _ (grows_on _ _ _ c.loop-number.invariant.grown c.in-Ok.ensures.grows) c.in-Err-tell.ensures.grows

pub returns-then-is_last-clause-told : goal.returns-then-is_last-clause-told
returns-then-is_last-clause-told g c =
    let put = g.W.Write.contents in
    let old = with_gathered (put c.args.writer.now) c.args.out.now in
    let mid = with_gathered (put c.next_line.new.writer) c.next_line.new.out in
    let h = so_far_kept c.args.world.now c.loop-number.world c.args.source.now c.loop-number.source old (with_gathered (put c.loop-number.writer) c.loop-number.out) mid c.loop-number.refused c.loop-number.number c.loop-number.invariant.so_far c.in-Ok.ensures.kept in
    is_over_now c.args.world.now c.loop-number.world c.tell.new.world c.args.source.now c.loop-number.source c.next_line.new.source old mid (with_gathered (put c.tell.new.writer) c.tell.new.out)
    c.loop-number.refused c.in-Ok-tell.now_refused c.either-refused.result c.loop-number.number c.next_line.new.piece.items c.in-Ok.end c.in-Ok-read_line.line c.status_of-then-is_last.result h c.in-Ok.ensures.line
    (same_line c.in-Ok.end c.next_line.new.piece.items c.as_slice-bytes.result.now _ c.as_slice-bytes.ensures.value (sym c.ends_no_line.ensures ∙ c.if-ends_no_line.false))
    (same_said c.next_line.new.piece.items c.as_slice-bytes.result.now _ c.as_slice-bytes.ensures.value (sym c.in-Ok-read_line.ensures)) c.in-Ok-tell.ensures.told c.either-refused.ensures
    (sym c.is_last.ensures ∙ c.if-is_last.true) c.status_of-then-is_last.ensures

pub returns-then-is_last-clause-grows : goal.returns-then-is_last-clause-grows
returns-then-is_last-clause-grows g c = grows_on _ _ _ (grows_on _ _ _ c.loop-number.invariant.grown c.in-Ok.ensures.grows) c.in-Ok-tell.ensures.grows

pub loop-number-preserved : goal.loop-number-preserved
loop-number-preserved g c =
    let put = g.W.Write.contents in
    let old = with_gathered (put c.args.writer.now) c.args.out.now in
    let mid = with_gathered (put c.next_line.new.writer) c.next_line.new.out in
    let h = so_far_kept c.args.world.now c.loop-number.world c.args.source.now c.loop-number.source old (with_gathered (put c.loop-number.writer) c.loop-number.out) mid c.loop-number.refused c.loop-number.number c.loop-number.invariant.so_far c.in-Ok.ensures.kept in
    record {
      so_far = goes_on c.args.world.now c.loop-number.world c.tell.new.world c.args.source.now c.loop-number.source c.next_line.new.source old mid (with_gathered (put c.tell.new.writer) c.tell.new.out)
          c.loop-number.refused c.in-Ok-tell.now_refused c.either-refused.result c.loop-number.number c.next_line.new.piece.items c.in-Ok.end c.in-Ok-read_line.line h c.in-Ok.ensures.line
          (same_line c.in-Ok.end c.next_line.new.piece.items c.as_slice-bytes.result.now _ c.as_slice-bytes.ensures.value (sym c.ends_no_line.ensures ∙ c.if-ends_no_line.false))
          (same_said c.next_line.new.piece.items c.as_slice-bytes.result.now _ c.as_slice-bytes.ensures.value (sym c.in-Ok-read_line.ensures)) c.in-Ok-tell.ensures.told c.either-refused.ensures
          (sym c.is_last.ensures ∙ c.if-is_last.false);
      heard =
          heard_on c.args.world.now c.loop-number.world c.tell.new.world c.args.source.now c.loop-number.source c.next_line.new.source c.next_line.new.piece.items c.in-Ok.end c.in-Ok-read_line.line (g.V.Watcher.heard c.args.watcher.now) (g.V.Watcher.heard c.loop-number.watcher) (g.V.Watcher.heard c.tell.new.watcher)
          c.loop-number.invariant.heard c.in-Ok.ensures.line
          (same_line c.in-Ok.end c.next_line.new.piece.items c.as_slice-bytes.result.now _ c.as_slice-bytes.ensures.value (sym c.ends_no_line.ensures ∙ c.if-ends_no_line.false))
          (same_said c.next_line.new.piece.items c.as_slice-bytes.result.now _ c.as_slice-bytes.ensures.value (sym c.in-Ok-read_line.ensures)) c.in-Ok-tell.ensures.told.2 c.in-Ok-tell.ensures.heard
          (sym c.is_last.ensures ∙ c.if-is_last.false);
      grown = grows_on _ _ _ (grows_on _ _ _ c.loop-number.invariant.grown c.in-Ok.ensures.grows) c.in-Ok-tell.ensures.grows;
    }

pub returns-clause-told : goal.returns-clause-told
returns-clause-told g c =
    let put = g.W.Write.contents in
    stops c.args.world.now c.loop-number.world c.args.source.now c.loop-number.source (with_gathered (put c.args.writer.now) c.args.out.now) (with_gathered (put c.loop-number.writer) c.loop-number.out) c.loop-number.refused c.loop-number.number fault.Read c.loop-number.invariant.so_far

pub returns-in-Err-clause-heard : goal.returns-in-Err-clause-heard
returns-in-Err-clause-heard g c = no_hearing (script_words c.args.world.now) c.args.source.now (g.V.Watcher.heard c.args.watcher.now) (g.V.Watcher.heard c.loop-number.watcher) c.in-Err.fault

pub returns-then-ends_no_line-clause-heard : goal.returns-then-ends_no_line-clause-heard
returns-then-ends_no_line-clause-heard g c =
    heard_over c.args.world.now c.loop-number.world c.args.source.now c.loop-number.source c.next_line.new.source c.next_line.new.piece.items c.in-Ok.end (g.V.Watcher.heard c.args.watcher.now) (g.V.Watcher.heard c.loop-number.watcher) c.status_of.result c.loop-number.invariant.heard c.in-Ok.ensures.line
    (same_line c.in-Ok.end c.next_line.new.piece.items c.as_slice-bytes.result.now _ c.as_slice-bytes.ensures.value (sym c.ends_no_line.ensures ∙ c.if-ends_no_line.true))

pub returns-in-Err-read_line-clause-heard : goal.returns-in-Err-read_line-clause-heard
returns-in-Err-read_line-clause-heard g c =
    heard_bad c.args.world.now c.loop-number.world c.args.source.now c.loop-number.source c.next_line.new.source c.next_line.new.piece.items c.in-Ok.end c.in-Err-read_line.fault (g.V.Watcher.heard c.args.watcher.now) (g.V.Watcher.heard c.loop-number.watcher) (g.V.Watcher.heard c.see_bad.new.self) c.tell_fault.result
    c.loop-number.invariant.heard c.in-Ok.ensures.line
    (same_line c.in-Ok.end c.next_line.new.piece.items c.as_slice-bytes.result.now _ c.as_slice-bytes.ensures.value (sym c.ends_no_line.ensures ∙ c.if-ends_no_line.false))
    (same_said c.next_line.new.piece.items c.as_slice-bytes.result.now _ c.as_slice-bytes.ensures.value (sym c.in-Err-read_line.ensures)) c.see_bad.ensures

pub returns-in-Err-tell-clause-heard : goal.returns-in-Err-tell-clause-heard
returns-in-Err-tell-clause-heard g c = no_hearing (script_words c.args.world.now) c.args.source.now (g.V.Watcher.heard c.args.watcher.now) (g.V.Watcher.heard c.tell.new.watcher) c.in-Err-tell.fault

pub returns-then-is_last-clause-heard : goal.returns-then-is_last-clause-heard
returns-then-is_last-clause-heard g c =
    heard_last c.args.world.now c.loop-number.world c.tell.new.world c.args.source.now c.loop-number.source c.next_line.new.source c.next_line.new.piece.items c.in-Ok.end c.in-Ok-read_line.line (g.V.Watcher.heard c.args.watcher.now) (g.V.Watcher.heard c.loop-number.watcher) (g.V.Watcher.heard c.tell.new.watcher) c.status_of-then-is_last.result
    c.loop-number.invariant.heard c.in-Ok.ensures.line
    (same_line c.in-Ok.end c.next_line.new.piece.items c.as_slice-bytes.result.now _ c.as_slice-bytes.ensures.value (sym c.ends_no_line.ensures ∙ c.if-ends_no_line.false))
    (same_said c.next_line.new.piece.items c.as_slice-bytes.result.now _ c.as_slice-bytes.ensures.value (sym c.in-Ok-read_line.ensures)) c.in-Ok-tell.ensures.told.2 c.in-Ok-tell.ensures.heard
    (sym c.is_last.ensures ∙ c.if-is_last.true)

pub returns-clause-heard : goal.returns-clause-heard
returns-clause-heard g c = no_hearing (script_words c.args.world.now) c.args.source.now (g.V.Watcher.heard c.args.watcher.now) (g.V.Watcher.heard c.loop-number.watcher) fault.Read
