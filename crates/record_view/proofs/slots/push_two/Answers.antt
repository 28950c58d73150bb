use Rattle.std.proofs.Common.{◌∙◌, ℕ, List, ◌++◌, string_bytes, ap}
use Rattle.record_view.proofs.SlotFacts.{two_lines}
use Rattle.record_view.proofs.slots.push_two.Goals as goal

pub returns : goal.returns
returns c =
    c.in_ok-push_lines_of_two.ensures
    ∙ ap (λ (lines : List ℕ). string_bytes c.args.text.now ++ lines)
    (two_lines c.args.bytes.now c.holder_of_two-holder.result c.slot_at-first.result c.slot_at-second.result c.holder_of_two-holder.ensures c.slot_at-first.ensures c.slot_at-second.ensures)
