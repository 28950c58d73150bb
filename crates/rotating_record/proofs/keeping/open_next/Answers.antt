use Rattle.std.proofs.Common.{◌∙◌, ap}
use Rattle.rotating_record.specs.Slots.{start_of}
use Rattle.slot_record.specs.KeepLaws.{both_ok}
use Rattle.rotating_record.proofs.StepFacts.{opening_stays, opening_done}
use Rattle.rotating_record.proofs.keeping.open_next.Goals as goal

pub returns-clause-settled : goal.returns-clause-settled
returns-clause-settled g c =
    let s = g.P.Plate.state c.args.plate.now in
    let t = g.P.Plate.state c.store.new.plate in
    let there = c.start.ensures ∙ ap start_of c.next.ensures in
    both_ok c.store.result _ _ _ c.store.ensures.written c.store.ensures.stored
    (λ w only. opening_done c.args.known c.start.result c.args.bytes.now s there c.requires.next c.requires.fits c.requires.waiting t w only)

pub returns-clause-stays : goal.returns-clause-stays
returns-clause-stays g c =
    let s = g.P.Plate.state c.args.plate.now in
    let t = g.P.Plate.state c.store.new.plate in
    let there = c.start.ensures ∙ ap start_of c.next.ensures in
    opening_stays c.args.known c.start.result c.args.bytes.now s there c.requires.next c.requires.fits c.requires.waiting t c.store.ensures.moments
