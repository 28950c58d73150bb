use Rattle.std.proofs.Common.{ℕ, ◌+◌, [], ◌∷◌, length, take, subst}
use Rattle.slot_record.specs.Images.{IsWritten}
use Rattle.slot_record.proofs.FormatFacts.{laid_out, laid_body}
use Rattle.slot_record.proofs.formatting.lay_out.Goals as goal

pub returns-clause-settled : goal.returns-clause-settled
returns-clause-settled g c =
    let r = g.P.Plate.state c.close_both.new.plate in
    let s = g.P.Plate.state c.store.new.plate in
    let t = g.P.Plate.state c.store-2.new.plate in
    let one = subst (λ (j : ℕ). IsWritten (j + 1) (take (12 + length c.args.bytes.now) c.fill.new.buffer) r.seen s.seen) c.start-start.ensures c.in_ok-store.ensures.written in
    let two = subst (λ (j : ℕ). IsWritten j (1 ∷ []) s.seen t.seen) c.start-start.ensures c.in_ok-store-2.ensures.written in
    laid_out c.args.bytes.now (take (12 + length c.args.bytes.now) c.fill.new.buffer) r s t c.in_ok-close_both.ensures.empty c.requires.fits c.fill.ensures.entry one two c.in_ok-store-2.ensures.stored

pub returns-clause-body : goal.returns-clause-body
returns-clause-body g c =
    let r = g.P.Plate.state c.close_both.new.plate in
    let s = g.P.Plate.state c.store.new.plate in
    let t = g.P.Plate.state c.store-2.new.plate in
    let one = subst (λ (j : ℕ). IsWritten (j + 1) (take (12 + length c.args.bytes.now) c.fill.new.buffer) r.seen s.seen) c.start-start.ensures c.in_ok-store.ensures.written in
    let two = subst (λ (j : ℕ). IsWritten j (1 ∷ []) s.seen t.seen) c.start-start.ensures c.in_ok-store-2.ensures.written in
    laid_body c.args.bytes.now (take (12 + length c.args.bytes.now) c.fill.new.buffer) r s t c.in_ok-close_both.ensures.empty c.requires.fits c.fill.ensures.entry one two
