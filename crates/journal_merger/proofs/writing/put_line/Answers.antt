use Rattle.std.proofs.Common.{◌∷◌, []}
use Rattle.journal_merger.proofs.OutFacts.{gathers-first, gathers-both}
use Rattle.journal_merger.proofs.writing.put_line.Goals as goal

pub returns-in-Err-clause-text : goal.returns-in-Err-clause-text
returns-in-Err-clause-text g c =
    let out = g.W.Write.contents in
    gathers-first (out c.args.writer.now) (out c.put_text.new.writer) c.args.out.now c.put_text.new.out c.args.text.now (10 ∷ []) c.put_text.result c.in-Err.fault c.in-Err.is c.put_text.ensures.text

pub returns-clause-text : goal.returns-clause-text
returns-clause-text g c =
    let out = g.W.Write.contents in
    gathers-both (out c.args.writer.now) (out c.put_text.new.writer) (out c.put_text-2.new.writer) c.args.out.now c.put_text.new.out c.put_text-2.new.out c.args.text.now (10 ∷ [])
    c.put_text.result c.put_text-2.result _ c.in-Ok.is c.put_text.ensures.text c.put_text-2.ensures.text
