use Rattle.std.proofs.Common.{ℕ, List, [], ◌∷◌, subst}
use Rattle.std.proofs.lemmas.Result.{on_ok_weaker}
use Rattle.slot_record.specs.Images.{IsWritten}
use Rattle.rotating_record.proofs.FormatFacts.{emptied}
use Rattle.rotating_record.proofs.formatting.close_all.Goals as goal

pub returns-clause-empty : goal.returns-clause-empty
returns-clause-empty g c =
    let r = g.P.Plate.state c.args.plate.now in
    let s = g.P.Plate.state c.write_at.new.self in
    let t = g.P.Plate.state c.write_at-2.new.self in
    let u = g.P.Plate.state c.write_at-3.new.self in
    let v = g.P.Plate.state c.write_at-4.new.self in
    let mark = subst (λ (l : List ℕ). IsWritten 0 l r.seen s.seen) c.to_be_bytes.ensures c.in_ok-write_at.ensures.written in
    let one = subst (λ (j : ℕ). IsWritten j (0 ∷ []) s.seen t.seen) c.start.ensures c.in_ok-write_at-2.ensures.written in
    let two = subst (λ (j : ℕ). IsWritten j (0 ∷ []) t.seen u.seen) c.start-2.ensures c.in_ok-write_at-3.ensures.written in
    let three = subst (λ (j : ℕ). IsWritten j (0 ∷ []) u.seen v.seen) c.start-3.ensures c.in_ok-write_at-4.ensures.written in
    on_ok_weaker c.sync.result (λ only. emptied r.seen s.seen t.seen u.seen v.seen (g.P.Plate.state c.sync.new.self) (g.met.P.Plate.sound c.sync.new.self) mark one two three only) c.sync.ensures.synced
