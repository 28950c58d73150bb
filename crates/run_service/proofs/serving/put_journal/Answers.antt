use Rattle.std.proofs.Common.{codes, ◌++◌}
use Rattle.journal_text.specs.Journals.{history_text}
use Rattle.run_service.proofs.WriteFacts.{then_part}
use Rattle.run_service.proofs.serving.put_journal.Goals as goal

pub returns-in-Err-Write-clause-text : goal.returns-in-Err-Write-clause-text
returns-in-Err-Write-clause-text g c =
    let out = g.W.Write.contents in
    then_part (out c.args.writer.now) (out c.put_head.new.writer) (out c.write_journal.new.writer) (c.args.head.now ++ codes "---\n") (history_text c.args.end.now.book.history) c.in-Ok.ensures.text c.in-Err-Write.ensures.text

pub returns-in-Err-Memory-clause-text : goal.returns-in-Err-Memory-clause-text
returns-in-Err-Memory-clause-text g c =
    let out = g.W.Write.contents in
    then_part (out c.args.writer.now) (out c.put_head.new.writer) (out c.write_journal.new.writer) (c.args.head.now ++ codes "---\n") (history_text c.args.end.now.book.history) c.in-Ok.ensures.text c.in-Err-Memory.ensures.text
