use Rattle.std.proofs.Common.{sym, ◌∙◌}
use Rattle.rotating_record.specs.Keeping.{IsWaiting}
use Rattle.rotating_record.proofs.KeepFacts.{of_done, opened_moments}
use Rattle.rotating_record.proofs.keeping.keep_body.Goals as goal

pub returns-then-is_err-2-clause-moments : goal.returns-then-is_err-2-clause-moments
returns-then-is_err-2-clause-moments g c =
    let own = c.args.known.own in
    let s = g.P.Plate.state c.args.plate.now in
    let q = g.P.Plate.state c.prepare.new.plate in
    let p = g.P.Plate.state c.open_next.new.plate in
    let waiting = of_done c.prepare.result (IsWaiting q c.args.known c.args.bytes.now) c.prepare.ensures.waiting (sym c.is_err.ensures.value ∙ c.if-is_err.false) in
    opened_moments own c.args.bytes.now s q p (g.met.P.Plate.sound c.prepare.new.plate) c.prepare.ensures.stays waiting.behind c.open_next.ensures.stays

pub returns-clause-moments : goal.returns-clause-moments
returns-clause-moments g c =
    let own = c.args.known.own in
    let s = g.P.Plate.state c.args.plate.now in
    let q = g.P.Plate.state c.prepare.new.plate in
    let p = g.P.Plate.state c.open_next.new.plate in
    let waiting = of_done c.prepare.result (IsWaiting q c.args.known c.args.bytes.now) c.prepare.ensures.waiting (sym c.is_err.ensures.value ∙ c.if-is_err.false) in
    opened_moments own c.args.bytes.now s q p (g.met.P.Plate.sound c.prepare.new.plate) c.prepare.ensures.stays waiting.behind c.open_next.ensures.stays
