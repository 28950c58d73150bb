use Rattle.std.proofs.Common.{◌∙◌, ℕ, List, ◌++◌, string_bytes, ap}
use Rattle.record_view.specs.Texts.{mark_text, slot_text}
use Rattle.record_view.proofs.TextFacts.{four_joined}
use Rattle.record_view.proofs.slots.push_lines_of_three.Goals as goal

pub returns : goal.returns
returns c =
    let old = string_bytes c.args.text.now in
    let mark = c.in_ok-push_str.ensures.bytes ∙ ap (λ (words : List ℕ). old ++ words) c.mark_line.ensures in
    four_joined old (mark_text c.args.mark) (slot_text c.args.holder 1 c.args.first) (slot_text c.args.holder 2 c.args.second) (slot_text c.args.holder 3 c.args.third)
    (string_bytes c.push_str.new.self) (string_bytes c.push_slot.new.text) (string_bytes c.push_slot-2.new.text) (string_bytes c.push_slot-3.new.text)
    mark c.in_ok-push_slot.ensures c.in_ok-push_slot-2.ensures c.in_ok-push_slot-3.ensures
