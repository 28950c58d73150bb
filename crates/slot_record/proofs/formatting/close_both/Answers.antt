use Rattle.std.proofs.Common.{ℕ, [], ◌∷◌, subst}
use Rattle.std.proofs.lemmas.Result.{on_ok_weaker}
use Rattle.slot_record.specs.Images.{IsWritten}
use Rattle.slot_record.proofs.FormatFacts.{emptied}
use Rattle.slot_record.proofs.formatting.close_both.Goals as goal

pub returns-clause-empty : goal.returns-clause-empty
returns-clause-empty g c =
    let r = g.P.Plate.state c.args.plate.now in
    let s = g.P.Plate.state c.write_at.new.self in
    let t = g.P.Plate.state c.write_at-2.new.self in
    let one = subst (λ (j : ℕ). IsWritten j (0 ∷ []) r.seen s.seen) c.start.ensures c.in_ok-write_at.ensures.written in
    let two = subst (λ (j : ℕ). IsWritten j (0 ∷ []) s.seen t.seen) c.start-2.ensures c.in_ok-write_at-2.ensures.written in
    on_ok_weaker c.sync.result (λ only. emptied r.seen s.seen t.seen (g.P.Plate.state c.sync.new.self) (g.met.P.Plate.sound c.sync.new.self) one two only) c.sync.ensures.synced
