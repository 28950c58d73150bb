use Rattle.std.proofs.Common.{◌∙◌, sym}
use Rattle.journal_audit.specs.declared.verdicts.TheConstants.{MAX_LINES}
use Rattle.journal_audit.proofs.JudgeFacts.{cuts_end, no_write, none_more, one_more, same_line}
use Rattle.journal_audit.proofs.LeftFacts.{cut_last, none_last, one_last}
use Rattle.journal_audit.proofs.judging.end_lines.Goals as goal

pub returns-in-Err-clause-lines : goal.returns-in-Err-clause-lines
returns-in-Err-clause-lines g c = cuts_end c.args.source.now c.in-Err.fault c.in-Err.ensures.fault

pub returns-then-ends_no_line-clause-lines : goal.returns-then-ends_no_line-clause-lines
returns-then-ends_no_line-clause-lines g c =
    none_more c.args.source.now c.read_piece.new.source c.read_piece.new.piece.items c.in-Ok.end c.in-Ok.ensures.line
    (same_line c.in-Ok.end c.read_piece.new.piece.items c.as_slice.result.now _ c.as_slice.ensures.value (sym c.ends_no_line.ensures ∙ c.if-ends_no_line.true))

pub returns-clause-lines : goal.returns-clause-lines
returns-clause-lines g c =
    one_more c.args.source.now c.read_piece.new.source c.read_piece.new.piece.items c.in-Ok.end c.in-Ok.ensures.line
    (same_line c.in-Ok.end c.read_piece.new.piece.items c.as_slice.result.now _ c.as_slice.ensures.value (sym c.ends_no_line.ensures ∙ c.if-ends_no_line.false))

pub returns-in-Err-clause-fault : goal.returns-in-Err-clause-fault
returns-in-Err-clause-fault g c = no_write c.in-Err.fault c.in-Err.ensures.fault

pub returns-in-Err-clause-left : goal.returns-in-Err-clause-left
returns-in-Err-clause-left g c = cut_last c.args.source.now c.read_piece.new.source c.read_piece.new.piece.items c.in-Err.fault c.in-Err.ensures.fault c.in-Err.ensures.taken c.in-Err.ensures.few c.in-Err.ensures.more

pub returns-then-ends_no_line-clause-left : goal.returns-then-ends_no_line-clause-left
returns-then-ends_no_line-clause-left g c =
    none_last c.args.source.now c.read_piece.new.source c.read_piece.new.piece.items c.in-Ok.end MAX_LINES c.in-Ok.ensures.line
    (same_line c.in-Ok.end c.read_piece.new.piece.items c.as_slice.result.now _ c.as_slice.ensures.value (sym c.ends_no_line.ensures ∙ c.if-ends_no_line.true))

pub returns-clause-left : goal.returns-clause-left
returns-clause-left g c = one_last c.args.source.now c.read_piece.new.source c.read_piece.new.piece.items c.in-Ok.end c.in-Ok.ensures.line c.in-Ok.ensures.taken c.in-Ok.ensures.few
