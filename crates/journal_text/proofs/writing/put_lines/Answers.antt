use Rattle.std.proofs.Common.{◌≡◌, ◌+◌, subst, sym, ap, arith, take, drop, length, List, ℕ}
use Rattle.std.specs.Io.KnownBytes.{Appends}
use Rattle.std.proofs.KnownBytes.{Appends-trans, Appends-kept}
use Rattle.line_streams.specs.Streams.{AppendsPart, with_gathered}
use Rattle.line_streams.proofs.StreamFacts.{grows_on}
use Rattle.journal_text.specs.Journals.{event_line, history_text}
use Rattle.journal_text.proofs.TextFacts.{part_later, line_more, line_within, named_more}
use Rattle.journal_text.proofs.writing.put_lines.Goals as goal

pub returns-in-Err-clause-text : goal.returns-in-Err-clause-text
returns-in-Err-clause-text g c =
    let out = g.W.Write.contents in
    let history = c.args.history.now in
    let i = c.loop-event.event-index in
    let item = c.loop-event-item.result in
    let old = with_gathered (out c.args.writer.now) c.args.out.now in
    let mid = with_gathered (out c.loop-event.writer) c.loop-event.out in
    let new = with_gathered (out c.put_line.new.writer) c.put_line.new.out in
    subst (λ (text : List ℕ). AppendsPart old new text) (sym (line_within history i item c.loop-event-item.is (omega (arith, c.loop-event-test.true))))
    (part_later old mid new (history_text (take i history)) (event_line item.0) (history_text (drop (i + 1) history)) c.loop-event.invariant.text c.in-Err.ensures.text)

pub returns-in-Err-clause-grows : goal.returns-in-Err-clause-grows
returns-in-Err-clause-grows g c = grows_on _ _ _ c.loop-event.invariant.grown c.in-Err.ensures.grows

pub returns-in-Err-clause-memory : goal.returns-in-Err-clause-memory
returns-in-Err-clause-memory g c = λ refused.
    let out = g.W.Write.contents in
    let old = with_gathered (out c.args.writer.now) c.args.out.now in
    let mid = with_gathered (out c.loop-event.writer) c.loop-event.out in
    let new = with_gathered (out c.put_line.new.writer) c.put_line.new.out in
    (c.loop-event.event-index, Appends-kept old mid new (history_text (take c.loop-event.event-index c.args.history.now)) c.loop-event.invariant.text (c.in-Err.ensures.memory refused))

pub returns-in-Err-clause-none : goal.returns-in-Err-clause-none
returns-in-Err-clause-none g c = λ none. absurd (let few : length c.args.history.now ≡ 0 = ap length none in omega (arith, few, c.loop-event-test.true))

pub loop-event-preserved : goal.loop-event-preserved
loop-event-preserved g c =
    let out = g.W.Write.contents in
    let history = c.args.history.now in
    let i = c.loop-event.event-index in
    let item = c.loop-event-item.result in
    let old = with_gathered (out c.args.writer.now) c.args.out.now in
    let mid = with_gathered (out c.loop-event.writer) c.loop-event.out in
    let new = with_gathered (out c.put_line.new.writer) c.put_line.new.out in
    record {
      text = subst (λ (text : List ℕ). Appends old new text) (sym (line_more history i item c.loop-event-item.is (omega (arith, c.loop-event-test.true))))
          (Appends-trans old mid new (history_text (take i history)) (event_line item.0) c.loop-event.invariant.text c.in-Ok.ensures.text);
      grown = grows_on _ _ _ c.loop-event.invariant.grown c.in-Ok.ensures.grows;
      none = λ none. absurd (omega (arith, none));
      named = named_more history i item c.loop-event-item.is (omega (arith, c.loop-event-test.true)) c.loop-event.invariant.named c.tell_names.ensures;
    }
