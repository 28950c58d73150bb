use Rattle.std.proofs.Common.{ℕ, ◌+◌, ◌∙◌, ap}
use Rattle.slot_record.specs.Images.{part}
use Rattle.rotating_record.proofs.FindFacts.{head_read}
use Rattle.rotating_record.proofs.heads.Head.read.Goals as goal

pub returns-clause-head : goal.returns-clause-head
returns-clause-head g c =
    let seen = (g.P.Plate.state c.args.plate.now).seen in
    let one = c.in_ok-read_at.ensures.read ∙ ap (λ (j : ℕ). part j 1 seen) c.start.ensures in
    let two = c.in_ok-read_at-2.ensures.read ∙ (λ i. part (c.start-2.ensures i + 4096) 12 (c.in_ok-read_at.ensures.seen i)) in
    head_read c.args.slot seen c.read_at.new.buffer c.read_at-2.new.buffer c.of.result one two c.of.ensures.gate c.of.ensures.sequence c.of.ensures.length
