use Rattle.std.proofs.Common.{ℕ, ◌+◌, List, [], ◌∷◌, length, subst}
use Rattle.slot_record.specs.Images.{IsWritten}
use Rattle.rotating_record.specs.Slots.{numbers_of}
use Rattle.rotating_record.proofs.FormatFacts.{laid_out, laid_body}
use Rattle.rotating_record.proofs.formatting.lay_out.Goals as goal

pub returns-clause-settled : goal.returns-clause-settled
returns-clause-settled g c =
    let r = g.P.Plate.state c.close_all.new.plate in
    let a = (g.P.Plate.state c.write_at.new.self).seen in
    let b = (g.P.Plate.state c.write_at-2.new.self).seen in
    let s = g.P.Plate.state c.sync.new.self in
    let t = g.P.Plate.state c.store.new.plate in
    let numbered = subst (λ (l : List ℕ). IsWritten (c.start-start.result + 4096) l r.seen a) c.numbers-numbers.ensures c.in_ok-write_at.ensures.written in
    let one = subst (λ (j : ℕ). IsWritten (j + 4096) (numbers_of 1 (length c.args.bytes.now)) r.seen a) c.start-start.ensures numbered in
    let two = subst (λ (j : ℕ). IsWritten (j + 4108) c.args.bytes.now a b) c.start-start.ensures c.in_ok-write_at-2.ensures.written in
    let three = subst (λ (j : ℕ). IsWritten j (1 ∷ []) s.seen t.seen) c.start-start.ensures c.in_ok-store.ensures.written in
    laid_out c.args.bytes.now r s t a b c.in_ok-close_all.ensures.empty (g.met.P.Plate.sound c.sync.new.self) c.requires.fits one two c.in_ok-sync.ensures.synced three c.in_ok-store.ensures.stored

pub returns-clause-body : goal.returns-clause-body
returns-clause-body g c =
    let r = g.P.Plate.state c.close_all.new.plate in
    let a = (g.P.Plate.state c.write_at.new.self).seen in
    let b = (g.P.Plate.state c.write_at-2.new.self).seen in
    let s = g.P.Plate.state c.sync.new.self in
    let t = g.P.Plate.state c.store.new.plate in
    let numbered = subst (λ (l : List ℕ). IsWritten (c.start-start.result + 4096) l r.seen a) c.numbers-numbers.ensures c.in_ok-write_at.ensures.written in
    let one = subst (λ (j : ℕ). IsWritten (j + 4096) (numbers_of 1 (length c.args.bytes.now)) r.seen a) c.start-start.ensures numbered in
    let two = subst (λ (j : ℕ). IsWritten (j + 4108) c.args.bytes.now a b) c.start-start.ensures c.in_ok-write_at-2.ensures.written in
    let three = subst (λ (j : ℕ). IsWritten j (1 ∷ []) s.seen t.seen) c.start-start.ensures c.in_ok-store.ensures.written in
    laid_body c.args.bytes.now r s t a b c.in_ok-close_all.ensures.empty (g.met.P.Plate.sound c.sync.new.self) c.requires.fits one two c.in_ok-sync.ensures.synced three
