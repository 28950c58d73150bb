use Rattle.std.proofs.Common.{◌++◌, ◌∙◌, ap, sym, length}
use Rattle.slot_record.proofs.EntryFacts.{filled_front}
use Rattle.slot_record.proofs.entries.fill.Goals as goal

pub returns : goal.returns
returns c =
    let a = c.copy_from_slice.ensures.after ∙ c.to_be_bytes.ensures in
    let b = c.copy_from_slice-2.ensures.after ∙ c.to_be_bytes-2.ensures in
    let d = c.copy_from_slice-3.ensures.after in
    record {
      entry =
          filled_front c.copy_from_slice.new.self c.copy_from_slice-2.new.self c.copy_from_slice-3.new.self c.args.buffer.now (ap length a) (ap length b) (length c.args.bytes.now) (ap length (sym d))
          ∙ (λ i. a i ++ b i ++ d i);
    }
