use Rattle.std.proofs.Common.{◌≡◌, ℕ, ◌+◌, List, [], ◌∷◌, length, ◌∙◌, ap, subst}
use Rattle.std.proofs.lemmas.Result.{on_ok_weaker}
use Rattle.slot_record.specs.Images.{IsWritten}
use Rattle.rotating_record.specs.Slots.{start_of, after, numbers_of}
use Rattle.rotating_record.proofs.StepFacts.{only_own, numbers_beside, body_beside, gate_beside, synced_beside, prepared}
use Rattle.rotating_record.proofs.keeping.prepare.Goals as goal

pub returns-in_err-write_at-clause-stays : goal.returns-in_err-write_at-clause-stays
returns-in_err-write_at-clause-stays g c =
    let s = g.P.Plate.state c.args.plate.now in
    let a = g.P.Plate.state c.write_at.new.self in
    let own = c.args.known.own in
    let sound = g.met.P.Plate.sound c.args.plate.now in
    let synced = c.requires.settled.synced in
    let holder = c.requires.settled.holder in
    let there = c.start.ensures ∙ ap start_of c.next-next.ensures in
    let long : length c.numbers-numbers.result ≡ 12 = ap length c.numbers-numbers.ensures in
    let one = numbers_beside own s sound synced holder c.start.result (length c.numbers-numbers.result) a there long c.write_at.ensures.time c.write_at.ensures.images in
    only_own own s a holder one

pub returns-in_err-write_at-2-clause-stays : goal.returns-in_err-write_at-2-clause-stays
returns-in_err-write_at-2-clause-stays g c =
    let s = g.P.Plate.state c.args.plate.now in
    let a = g.P.Plate.state c.write_at.new.self in
    let own = c.args.known.own in
    let sound = g.met.P.Plate.sound c.args.plate.now in
    let synced = c.requires.settled.synced in
    let holder = c.requires.settled.holder in
    let there = c.start.ensures ∙ ap start_of c.next-next.ensures in
    let long : length c.numbers-numbers.result ≡ 12 = ap length c.numbers-numbers.ensures in
    let one = numbers_beside own s sound synced holder c.start.result (length c.numbers-numbers.result) a there long c.write_at.ensures.time c.write_at.ensures.images in
    let b = g.P.Plate.state c.write_at-2.new.self in
    let there-2 = c.start-2.ensures ∙ ap start_of c.next-next.ensures in
    let two = body_beside own s sound synced holder c.start-2.result (length c.args.bytes.now) a b there-2 c.requires.fits one c.write_at-2.ensures.time c.write_at-2.ensures.images in
    only_own own s b holder two

pub returns-in_err-write_at-3-clause-stays : goal.returns-in_err-write_at-3-clause-stays
returns-in_err-write_at-3-clause-stays g c =
    let s = g.P.Plate.state c.args.plate.now in
    let a = g.P.Plate.state c.write_at.new.self in
    let own = c.args.known.own in
    let sound = g.met.P.Plate.sound c.args.plate.now in
    let synced = c.requires.settled.synced in
    let holder = c.requires.settled.holder in
    let there = c.start.ensures ∙ ap start_of c.next-next.ensures in
    let long : length c.numbers-numbers.result ≡ 12 = ap length c.numbers-numbers.ensures in
    let one = numbers_beside own s sound synced holder c.start.result (length c.numbers-numbers.result) a there long c.write_at.ensures.time c.write_at.ensures.images in
    let b = g.P.Plate.state c.write_at-2.new.self in
    let there-2 = c.start-2.ensures ∙ ap start_of c.next-next.ensures in
    let two = body_beside own s sound synced holder c.start-2.result (length c.args.bytes.now) a b there-2 c.requires.fits one c.write_at-2.ensures.time c.write_at-2.ensures.images in
    let d = g.P.Plate.state c.write_at-3.new.self in
    let there-3 = c.start-3.ensures ∙ ap start_of (c.next.ensures ∙ ap after c.next-next.ensures) in
    let three = gate_beside own s sound synced holder c.start-3.result b d there-3 two c.write_at-3.ensures.time c.write_at-3.ensures.images in
    only_own own s d holder three

pub returns-clause-stays : goal.returns-clause-stays
returns-clause-stays g c =
    let s = g.P.Plate.state c.args.plate.now in
    let a = g.P.Plate.state c.write_at.new.self in
    let own = c.args.known.own in
    let sound = g.met.P.Plate.sound c.args.plate.now in
    let synced = c.requires.settled.synced in
    let holder = c.requires.settled.holder in
    let there = c.start.ensures ∙ ap start_of c.next-next.ensures in
    let long : length c.numbers-numbers.result ≡ 12 = ap length c.numbers-numbers.ensures in
    let one = numbers_beside own s sound synced holder c.start.result (length c.numbers-numbers.result) a there long c.write_at.ensures.time c.write_at.ensures.images in
    let b = g.P.Plate.state c.write_at-2.new.self in
    let there-2 = c.start-2.ensures ∙ ap start_of c.next-next.ensures in
    let two = body_beside own s sound synced holder c.start-2.result (length c.args.bytes.now) a b there-2 c.requires.fits one c.write_at-2.ensures.time c.write_at-2.ensures.images in
    let d = g.P.Plate.state c.write_at-3.new.self in
    let there-3 = c.start-3.ensures ∙ ap start_of (c.next.ensures ∙ ap after c.next-next.ensures) in
    let three = gate_beside own s sound synced holder c.start-3.result b d there-3 two c.write_at-3.ensures.time c.write_at-3.ensures.images in
    let e = g.P.Plate.state c.sync.new.self in
    only_own own s e holder (synced_beside own s sound synced holder d e three c.sync.ensures.time c.sync.ensures.images)

pub returns-clause-waiting : goal.returns-clause-waiting
returns-clause-waiting g c =
    let s = g.P.Plate.state c.args.plate.now in
    let a = (g.P.Plate.state c.write_at.new.self).seen in
    let b = (g.P.Plate.state c.write_at-2.new.self).seen in
    let d = (g.P.Plate.state c.write_at-3.new.self).seen in
    let e = g.P.Plate.state c.sync.new.self in
    let own = c.args.known.own in
    let body = c.args.bytes.now in
    let there = c.start.ensures ∙ ap start_of c.next-next.ensures in
    let there-2 = c.start-2.ensures ∙ ap start_of c.next-next.ensures in
    let there-3 = c.start-3.ensures ∙ ap start_of (c.next.ensures ∙ ap after c.next-next.ensures) in
    let numbered = subst (λ (l : List ℕ). IsWritten (c.start.result + 4096) l s.seen a) c.numbers-numbers.ensures c.in_ok-write_at.ensures.written in
    let numbers = subst (λ (j : ℕ). IsWritten (j + 4096) (numbers_of (c.args.known.sequence + 1) (length body)) s.seen a) there numbered in
    let bodied = subst (λ (j : ℕ). IsWritten (j + 4108) body a b) there-2 c.in_ok-write_at-2.ensures.written in
    let gated = subst (λ (j : ℕ). IsWritten j (0 ∷ []) b d) there-3 c.in_ok-write_at-3.ensures.written in
    on_ok_weaker c.sync.result
    (λ only. prepared c.args.known body s e a b d c.requires.settled c.requires.next c.requires.fits (record { numbers = numbers; behind = bodied; gate = gated }) only (g.met.P.Plate.sound c.sync.new.self))
    c.sync.ensures.synced
