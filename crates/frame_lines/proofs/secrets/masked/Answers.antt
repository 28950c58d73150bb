use Rattle.std.proofs.Common.{◌∙◌, ◌<◌, ap, refl, arith, length, List, ℕ, bit_xor, slice_index_or, slice_set}
use Rattle.frame_lines.proofs.DigestFacts.{mask_all, mask_next}
use Rattle.frame_lines.proofs.secrets.masked.Goals as goal

pub returns : goal.returns
returns c = c.loop-at.invariant ∙ mask_all c.args.mask c.args.block.now c.loop-at.at (rw c.told-block c.loop-at-test.false)

pub loop-at-preserved : goal.loop-at-preserved
loop-at-preserved c =
    let block = c.args.block.now in
    let at = c.loop-at.at in
    let x = bit_xor (slice_index_or block at 0) c.args.mask in
    let within : at < length block = omega (arith, c.loop-at-test.true, c.told-block) in
    ap (λ (out : List ℕ). slice_set out at x) c.loop-at.invariant ∙ mask_next c.args.mask block at 0 x within refl
