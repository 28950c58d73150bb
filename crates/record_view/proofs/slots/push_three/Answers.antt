use Rattle.std.proofs.Common.{◌≡◌, ◌∙◌, ℕ, List, ◌++◌, string_bytes, ap}
use Rattle.std.specs.Int.{w64, from_be_bytes}
use Rattle.rotating_record.specs.Slots.{mark_on}
use Rattle.record_view.proofs.SlotFacts.{three_lines}
use Rattle.record_view.proofs.slots.push_three.Goals as goal

pub returns : goal.returns
unfolding mark_on
returns c =
    let mark : c.from_be_bytes-mark.result ≡ mark_on c.args.bytes.now = c.from_be_bytes-mark.ensures ∙ ap (from_be_bytes w64) c.chunk_at.ensures in
    c.in_ok-push_lines_of_three.ensures
    ∙ ap (λ (lines : List ℕ). string_bytes c.args.text.now ++ lines)
    (three_lines c.args.bytes.now c.from_be_bytes-mark.result c.holder_of_three-holder.result c.slot_at-first.result c.slot_at-second.result c.slot_at-third.result
    mark c.holder_of_three-holder.ensures c.slot_at-first.ensures c.slot_at-second.ensures c.slot_at-third.ensures)
