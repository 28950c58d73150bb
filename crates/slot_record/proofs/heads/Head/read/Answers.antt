use Rattle.std.proofs.Common.{ℕ, ◌∙◌, ap}
use Rattle.slot_record.specs.Images.{part}
use Rattle.slot_record.proofs.FindFacts.{head_read}
use Rattle.slot_record.proofs.heads.Head.read.Goals as goal

pub returns-clause-head : goal.returns-clause-head
returns-clause-head g c =
    let seen = (g.P.Plate.state c.args.plate.now).seen in
    head_read c.args.slot seen c.read_at.new.buffer c.of.result (c.in_ok-read_at.ensures.read ∙ ap (λ (j : ℕ). part j 13 seen) c.start.ensures) c.of.ensures.gate c.of.ensures.sequence c.of.ensures.length
