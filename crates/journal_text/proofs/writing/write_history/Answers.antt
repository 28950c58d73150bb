use Rattle.std.proofs.Common.{◌≡◌, ◌∙◌, true, false}
use Rattle.line_streams.specs.Streams.{with_gathered}
use Rattle.line_streams.proofs.StreamFacts.{grows_on, let_out_grows}
use Rattle.journal_text.specs.Journals.{history_text}
use Rattle.journal_text.proofs.TextFacts.{from_nothing, part_from_nothing, part_since, all_out, all_but_gathered, some_text}
use Rattle.journal_text.proofs.writing.write_history.Goals as goal

pub returns-in-Err-clause-text : goal.returns-in-Err-clause-text
returns-in-Err-clause-text g c =
    let put = g.W.Write.contents in
    let old = put c.args.writer.now in
    let new = put c.put_lines.new.writer in
    part_since old new c.put_lines.new.out (history_text c.args.history.now)
    (part_from_nothing old (with_gathered new c.put_lines.new.out) c.new-out.result (history_text c.args.history.now) c.new-out.ensures c.in-Err.ensures.text)
    c.in-Err.ensures.grows

pub returns-in-Err-end_text-clause-text : goal.returns-in-Err-end_text-clause-text
returns-in-Err-end_text-clause-text g c =
    let put = g.W.Write.contents in
    let text = history_text c.args.history.now in
    let old = put c.args.writer.now in
    let mid = put c.put_lines.new.writer in
    let new = put c.end_text.new.writer in
    let all = from_nothing old (with_gathered mid c.put_lines.new.out) c.new-out.result text c.new-out.ensures c.in-Ok.ensures.text in
    all_but_gathered old new c.end_text.new.out text
    (some_text c.args.history.now (λ none. let clash : false ≡ true = c.in-Err-end_text.ensures.nothing (c.in-Ok.ensures.none none ∙ c.new-out.ensures) in cc))
    c.in-Err-end_text.ensures.rest
    (all_out old mid new c.put_lines.new.out c.end_text.new.out text all c.end_text.ensures.bytes)
    (grows_on old mid new c.in-Ok.ensures.grows (let_out_grows mid new c.put_lines.new.out c.end_text.new.out c.end_text.ensures.bytes))
