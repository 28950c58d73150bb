use Rattle.std.proofs.Common.{Some, sym, ap, ◌∙◌, arith}
use Rattle.stable_record.specs.Indexing.{with_announced}
use Rattle.stable_record.specs.Lines.{one_if}
use Rattle.voter_core.proofs.TakingFacts.{waiting-announced}
use Rattle.voter_core.proofs.deciding.waiting_beside.Goals as goal

pub overflow_sub-result : goal.overflow_sub-result
overflow_sub-result c =
    let k = c.requires.0 in
    let es = c.requires.1 in
    let count = c.waiting_for-waiting.ensures (with_announced (Some (k, c.args.announced.now)) es) c.requires.2 in
    let more = waiting-announced c.args.freed.now k c.args.announced.now es in
    let one = ap one_if (sym c.is_freed.ensures ∙ c.if-is_freed.true) in
    omega (arith, count, more, one)

pub returns-then-is_freed : goal.returns-then-is_freed
returns-then-is_freed c = λ k es h.
    let count = c.waiting_for-waiting.ensures (with_announced (Some (k, c.args.announced.now)) es) h in
    let more = waiting-announced c.args.freed.now k c.args.announced.now es in
    let one = ap one_if (sym c.is_freed.ensures ∙ c.if-is_freed.true) in
    omega (arith, count, more, one)

pub returns-else-is_freed : goal.returns-else-is_freed
returns-else-is_freed c = λ k es h.
    let count = c.waiting_for-waiting.ensures (with_announced (Some (k, c.args.announced.now)) es) h in
    let more = waiting-announced c.args.freed.now k c.args.announced.now es in
    let one = ap one_if (sym c.is_freed.ensures ∙ c.if-is_freed.false) in
    omega (arith, count, more, one)
