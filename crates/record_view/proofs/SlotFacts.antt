-- The slots that are computed are those of the two formats.
use Rattle.std.proofs.Common.{◌≡◌, ◌∙◌, ℕ, refl, ap}
use Rattle.slot_record.specs.Images.{Image}
use Rattle.slot_record.specs.Slots.{rank, head_on as two_head, holder as holder_of_ranks}
use Rattle.rotating_record.specs.Slots.{counts, holder, head_on as three_head, mark_on}
use Rattle.record_view.specs.declared.slots.SlotView.{SlotView}
use Rattle.record_view.specs.Slots.{slot_seen_at, rank_seen, holder_seen}
use Rattle.record_view.specs.Texts.{lines_of_two, two_text, place_in_two, lines_of_three, three_text, place_in_three}

abbrev pub two_from : SlotView → SlotView → ℕ
two_from first second = place_in_two (holder_of_ranks (rank_seen first) (rank_seen second))

-- the two slots of a file, as they are computed
two_are : (image : Image) → lines_of_two (two_from (slot_seen_at 0 1 image) (slot_seen_at 60013 60014 image)) (slot_seen_at 0 1 image) (slot_seen_at 60013 60014 image) ≡ two_text image
unfolding two_head rank
two_are image = refl

pub two_lines : (image : Image) (h : ℕ) (first second : SlotView) → h ≡ two_from first second → first ≡ slot_seen_at 0 1 image → second ≡ slot_seen_at 60013 60014 image → lines_of_two h first second ≡ two_text image
two_lines image h first second e f g =
    ap (λ (k : ℕ). lines_of_two k first second) e
    ∙ ap (λ (s : SlotView). lines_of_two (two_from s second) s second) f
    ∙ ap (λ (s : SlotView). lines_of_two (two_from (slot_seen_at 0 1 image) s) (slot_seen_at 0 1 image) s) g
    ∙ two_are image

abbrev pub three_from : ℕ → SlotView → SlotView → SlotView → ℕ
three_from mark first second third = place_in_three (holder_seen mark first second third)

-- the three slots of a file
three_are : (image : Image) → lines_of_three (mark_on image) (three_from (mark_on image) (slot_seen_at 4096 8192 image) (slot_seen_at 69632 73728 image) (slot_seen_at 135168 139264 image)) (slot_seen_at 4096 8192 image) (slot_seen_at 69632 73728 image) (slot_seen_at 135168 139264 image) ≡ three_text image
unfolding three_head holder counts
three_are image = refl

pub three_lines : (image : Image) (mark h : ℕ) (first second third : SlotView) → mark ≡ mark_on image → h ≡ three_from mark first second third
    → first ≡ slot_seen_at 4096 8192 image → second ≡ slot_seen_at 69632 73728 image → third ≡ slot_seen_at 135168 139264 image
    → lines_of_three mark h first second third ≡ three_text image
three_lines image mark h first second third m e f g k =
    let one = slot_seen_at 4096 8192 image in
    let two = slot_seen_at 69632 73728 image in
    ap (λ (n : ℕ). lines_of_three mark n first second third) e
    ∙ ap (λ (n : ℕ). lines_of_three n (three_from n first second third) first second third) m
    ∙ ap (λ (s : SlotView). lines_of_three (mark_on image) (three_from (mark_on image) s second third) s second third) f
    ∙ ap (λ (s : SlotView). lines_of_three (mark_on image) (three_from (mark_on image) one s third) one s third) g
    ∙ ap (λ (s : SlotView). lines_of_three (mark_on image) (three_from (mark_on image) one two s) one two s) k
    ∙ three_are image
