use Rattle.std.proofs.lemmas.Result.{IfOk-weaker, IfErr-weaker}
use Rattle.journal_merger.specs.declared.reading.TheConstants.{MAX_OWN_LINE_LEN}
use Rattle.journal_merger.proofs.PendingFacts.{read-next, read-last, read-no-line, read-too-long, read-failed}
use Rattle.journal_merger.proofs.reading.read_next.Goals as goal

pub returns-in-Err-clause-fault : goal.returns-in-Err-clause-fault
returns-in-Err-clause-fault g c = read-failed c.args.source.now c.no_line.result c.no_line.ensures

pub returns-in-LineFeed-clause-next : goal.returns-in-LineFeed-clause-next
returns-in-LineFeed-clause-next g c =
    IfOk-weaker c.whole_line.result _ _
    (λ next h. read-next MAX_OWN_LINE_LEN c.args.source.now c.read_line.new.self c.read_line.new.line.items c.as_slice.result.now c.in-Ok.end next c.as_slice.ensures.value c.in-LineFeed.is c.in-Ok.ensures.line h)
    c.whole_line.ensures.line

pub returns-in-LineFeed-clause-fault : goal.returns-in-LineFeed-clause-fault
returns-in-LineFeed-clause-fault g c =
    IfErr-weaker c.whole_line.result _ _
    (λ f h. read-no-line MAX_OWN_LINE_LEN c.args.source.now c.read_line.new.self c.read_line.new.line.items c.as_slice.result.now c.in-Ok.end f c.as_slice.ensures.value c.in-LineFeed.is c.in-Ok.ensures.line h)
    c.whole_line.ensures.fault

pub returns-in-Input-clause-next : goal.returns-in-Input-clause-next
returns-in-Input-clause-next g c = read-last MAX_OWN_LINE_LEN c.args.source.now c.read_line.new.self c.read_line.new.line.items c.in-Ok.end c.in-Input.is c.in-Ok.ensures.line

pub returns-in-Limit-clause-fault : goal.returns-in-Limit-clause-fault
returns-in-Limit-clause-fault g c = read-too-long c.args.source.now c.read_line.new.self c.read_line.new.line.items c.in-Ok.end c.in-Limit.is c.in-Ok.ensures.line
