use Rattle.std.proofs.Common.{inr, ap, true, false}
use Rattle.line_streams.specs.Streams.{AppendsPart}
use Rattle.run_service.specs.Ends.{End, run_text}
use Rattle.run_service.proofs.RunFacts.{part_told}
use Rattle.run_service.proofs.serving.tell.Goals.{then-journal, else-journal}
use Rattle.run_service.proofs.serving.tell.Goals as goal

pub returns-in-Err-clause-told : goal.returns-in-Err-clause-told
returns-in-Err-clause-told g c = λ wishes is_end.
    let out = g.W.Write.contents in
    let e : End = record { history = c.args.end.now.book.history; world = c.args.end.now.book.world; faults = c.args.end.now.faults.items } in
    let part : AppendsPart (out c.args.writer.now) (out c.if-journal.writer) (run_text c.args.journal c.args.head.now e) =
    elim c.if-journal.branch [
      | then-journal w ↦ part_told c.args.journal c.args.head.now e true (out c.args.writer.now) (out c.if-journal.writer) (out w.put_journal-told.new.writer) c.if-journal.told w.put_journal-told.result c.in-Err.fault w.if-journal.true w.told-is c.in-Err.is (ap out w.writer-is) w.put_journal-told.ensures.text
      | else-journal w ↦ part_told c.args.journal c.args.head.now e false (out c.args.writer.now) (out c.if-journal.writer) (out w.tell_end-told.new.writer) c.if-journal.told w.tell_end-told.result c.in-Err.fault w.if-journal.false w.told-is c.in-Err.is (ap out w.writer-is) w.tell_end-told.ensures.text
    ] in
    inr (e, is_end, part)
