use Rattle.std.proofs.Common.{length, sym, ◌∙◌, ap}
use Rattle.std.proofs.lemmas.List.{length-replicate}
use Rattle.slot_record.specs.MemoryPlates.{Memory, content}
use Rattle.slot_record.specs.MemoryLaws.{length_of_content}
use Rattle.record_view.proofs.ViewFacts.{written_image}
use Rattle.record_view.proofs.finding.plate_of.Goals as goal

pub returns : goal.returns
returns c =
    let m = c.in-Ok.plate in
    let long = length_of_content m.first m.calls ∙ ap (λ (k : Memory). length k.first) c.in-Ok.ensures.made ∙ length-replicate c.args.size 0 ∙ sym c.requires in
    record { holds = written_image c.args.bytes.now (content m.first m.calls) c.write_at.new.self c.sync.new.self long c.in-Ok-write_at.ensures.written c.in-Ok-sync.ensures.synced }
