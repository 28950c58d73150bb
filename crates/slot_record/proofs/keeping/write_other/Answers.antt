use Rattle.std.proofs.Common.{◌≤◌, ℕ, ◌+◌, List, length, ◌∙◌, ap, subst, arith}
use Rattle.slot_record.specs.Slots.{start_of}
use Rattle.slot_record.specs.Images.{IsWritten}
use Rattle.slot_record.proofs.SlotFacts.{length-entry_of}
use Rattle.slot_record.specs.KeepLaws.{both_ok}
use Rattle.slot_record.proofs.StepFacts.{writing_stays, writing_done}
use Rattle.slot_record.proofs.keeping.write_other.Goals as goal

pub returns-clause-waiting : goal.returns-clause-waiting
returns-clause-waiting g c =
    let s = g.P.Plate.state c.args.plate.now in
    let t = g.P.Plate.state c.store.new.plate in
    let there = ap (λ (j : ℕ). j + 1) (c.start.ensures ∙ ap start_of c.other.ensures) in
    both_ok c.store.result _ _ _ c.store.ensures.written c.store.ensures.stored
    (λ w only. writing_done c.args.known.own c.args.known.sequence (c.start.result + 1) c.args.bytes.now s t there c.requires.next c.requires.fits c.requires.closed
    (subst (λ (l : List ℕ). IsWritten (c.start.result + 1) l s.seen t.seen) c.requires.entry w) only)

pub returns-clause-stays : goal.returns-clause-stays
returns-clause-stays g c =
    let s = g.P.Plate.state c.args.plate.now in
    let t = g.P.Plate.state c.store.new.plate in
    let there = ap (λ (j : ℕ). j + 1) (c.start.ensures ∙ ap start_of c.other.ensures) in
    let room : length c.args.entry.now ≤ 60012 = omega (arith, ap length c.requires.entry, length-entry_of (c.args.known.sequence + 1) c.args.bytes.now, c.requires.fits) in
    writing_stays c.args.known.own c.args.known.sequence (c.start.result + 1) (length c.args.entry.now) s there room c.requires.closed t c.store.ensures.moments
