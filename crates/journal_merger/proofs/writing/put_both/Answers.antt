use Rattle.journal_text.specs.Journals.{event_line}
use Rattle.journal_merger.proofs.OutFacts.{gathers-first, gathers-both}
use Rattle.journal_merger.proofs.writing.put_both.Goals as goal

pub returns-in-Err-clause-text : goal.returns-in-Err-clause-text
returns-in-Err-clause-text g c =
    let out = g.W.Write.contents in
    gathers-first (out c.args.writer.now) (out c.put_event.new.writer) c.args.out.now c.put_event.new.out (event_line c.args.first.now) (event_line c.args.second.now) c.put_event.result c.in-Err.fault c.in-Err.is c.put_event.ensures.text

pub returns-clause-text : goal.returns-clause-text
returns-clause-text g c =
    let out = g.W.Write.contents in
    gathers-both (out c.args.writer.now) (out c.put_event.new.writer) (out c.put_event-2.new.writer) c.args.out.now c.put_event.new.out c.put_event-2.new.out (event_line c.args.first.now) (event_line c.args.second.now)
    c.put_event.result c.put_event-2.result _ c.in-Ok.is c.put_event.ensures.text c.put_event-2.ensures.text
