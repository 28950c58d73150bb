use Rattle.std.proofs.Common.{ℕ, ◌≡◌, ◌+◌, ◌-◌, ◌∙◌, ap, sym, length, take, drop, arith, replicate, length-drop}
use Rattle.std.proofs.lemmas.List.{length-replicate, length-take}
use Rattle.slot_record.specs.PutLaws.{put_mid-put}
use Rattle.slot_record.proofs.memory_plates.fill_range.Goals as goal

pub returns : goal.returns
returns c =
    let at = c.args.at in
    let n = at + c.args.len - at in
    let size : length (take n (drop at c.args.bytes.now)) ≡ c.args.len = omega (arith, length-take n (drop at c.args.bytes.now), length-drop at c.args.bytes.now, c.requires) in
    let is : c.fill.new.self ≡ replicate c.args.len c.args.fill = c.fill.ensures.after (λ y same. same) ∙ ap (λ (k : ℕ). replicate k c.args.fill) size in
    let long = length-replicate c.args.len c.args.fill in
    rw is (put_mid-put at c.args.len c.args.bytes.now (replicate c.args.len c.args.fill) (sym long) (omega (arith, long, c.requires)))
