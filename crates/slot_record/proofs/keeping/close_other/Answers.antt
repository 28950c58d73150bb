use Rattle.std.proofs.Common.{◌≡◌, true, ◌∙◌, ap, rules}
use Rattle.slot_record.specs.Slots.{start_of}
use Rattle.slot_record.specs.Moments.{rests}
use Rattle.slot_record.specs.KeepLaws.{both_ok}
use Rattle.slot_record.proofs.StepFacts.{only_own, settled_holds, closing_stays, closing_done}
use Rattle.slot_record.proofs.keeping.close_other.Goals as goal

pub returns-then-not-known-clause-stays : goal.returns-then-not-known-clause-stays
returns-then-not-known-clause-stays g c =
    let s = g.P.Plate.state c.args.plate.now in
    only_own c.args.known.own s s s.may_leave (rests s s.may_leave (g.met.P.Plate.sound c.args.plate.now) (λ i left. left)) (settled_holds c.args.known s c.requires.settled)

pub returns-clause-closed : goal.returns-clause-closed
returns-clause-closed g c =
    let s = g.P.Plate.state c.args.plate.now in
    let t = g.P.Plate.state c.store.new.plate in
    let there = c.start.ensures ∙ ap start_of c.other.ensures in
    let is_open : c.args.known.other_open ≡ true = search rules in
    both_ok c.store.result _ _ _ c.store.ensures.written c.store.ensures.stored
    (λ w only. closing_done c.args.known c.start.result s t there c.requires.settled is_open c.store.ensures.moments w only)

pub returns-clause-stays : goal.returns-clause-stays
returns-clause-stays g c =
    let s = g.P.Plate.state c.args.plate.now in
    let t = g.P.Plate.state c.store.new.plate in
    let there = c.start.ensures ∙ ap start_of c.other.ensures in
    let is_open : c.args.known.other_open ≡ true = search rules in
    closing_stays c.args.known c.start.result s t there c.requires.settled is_open c.store.ensures.moments
