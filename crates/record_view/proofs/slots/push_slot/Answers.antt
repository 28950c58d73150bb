use Rattle.std.proofs.Common.{◌∙◌, ℕ, List, ◌++◌, codes, string_bytes, ap}
use Rattle.record_view.specs.Texts.{gate_text, holder_text, place_text, numbers_text}
use Rattle.record_view.proofs.TextFacts.{five_joined}
use Rattle.record_view.proofs.slots.push_slot.Goals as goal

pub returns : goal.returns
returns c =
    let slot = c.args.slot in
    let gate = c.in_ok-push_str.ensures.bytes ∙ ap (λ (words : List ℕ). string_bytes c.push_place.new.text ++ words) c.gate_word-gate.ensures in
    let holder = c.in_ok-push_str-2.ensures.bytes ∙ ap (λ (words : List ℕ). string_bytes c.push_numbers.new.text ++ words) c.holder_word-record.ensures in
    five_joined (string_bytes c.args.text.now) (place_text c.args.place) (gate_text slot.gate) (numbers_text slot.sequence slot.length) (holder_text c.args.holder c.args.place) (codes "\n")
    (string_bytes c.push_place.new.text) (string_bytes c.push_str.new.self) (string_bytes c.push_numbers.new.text) (string_bytes c.push_str-2.new.self) (string_bytes c.push_str-3.new.self)
    c.in_ok-push_place.ensures gate c.in_ok-push_numbers.ensures holder c.in_ok-push_str-3.ensures.bytes
