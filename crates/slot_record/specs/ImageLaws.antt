-- What follows of parts of images, and of images that differ within a range. Nothing here has to be believed: each
-- line is proved from `Images`.
use Rattle.std.proofs.Common.{◌≡◌, ℕ, ◌+◌, ◌-◌, ◌<◌, ◌≤◌, get_or, take, drop, sym, ◌∙◌, ap, arith, get_or-take, get_or-drop}
use Rattle.std.proofs.lemmas.List.{take-take, drop-take, drop-drop}
use Rattle.slot_record.specs.Images.{Image, part, DiffersWithin}

-- a part is the end of a front
part_of_front : (i m : ℕ) (image : Image) → part i m image ≡ drop i (take (i + m) image)
part_of_front i m image = sym (drop-take i m image)

module _ (at n : ℕ) (old new : Image) (d : DiffersWithin at n old new) where
  pub part_before : (i m : ℕ) → i + m ≤ at → part i m new ≡ part i m old
  part_before i m le =
      part_of_front i m new
      ∙ ap (λ (l : Image). drop i l) (sym (take-take (i + m) at new le) ∙ ap (λ (l : Image). take (i + m) l) d.before ∙ take-take (i + m) at old le)
      ∙ sym (part_of_front i m old)

  drop_behind : (i : ℕ) → at + n ≤ i → drop i new ≡ drop i old
  drop_behind i le =
      let k = i - (at + n) in
      let is : (at + n) + k ≡ i = omega arith in
      ap (λ (j : ℕ). drop j new) (sym is) ∙ sym (drop-drop k (at + n) new)
      ∙ ap (λ (l : Image). drop k l) d.behind ∙ drop-drop k (at + n) old ∙ ap (λ (j : ℕ). drop j old) is

  pub part_behind : (i m : ℕ) → at + n ≤ i → part i m new ≡ part i m old
  part_behind i m le = ap (λ (l : Image). take m l) (drop_behind i le)

  pub index_before : (i : ℕ) → i < at → get_or new i 0 ≡ get_or old i 0
  index_before i lt = sym (get_or-take at new i 0 lt) ∙ ap (λ (l : Image). get_or l i 0) d.before ∙ get_or-take at old i 0 lt

  pub index_behind : (i : ℕ) → at + n ≤ i → get_or new i 0 ≡ get_or old i 0
  index_behind i le =
      let k = i - (at + n) in
      let is : (at + n) + k ≡ i = omega arith in
      ap (λ (j : ℕ). get_or new j 0) (sym is) ∙ sym (get_or-drop (at + n) new k 0)
      ∙ ap (λ (l : Image). get_or l k 0) d.behind ∙ get_or-drop (at + n) old k 0 ∙ ap (λ (j : ℕ). get_or old j 0) is

-- a part of a part
pub part-part : (at n i m : ℕ) (image : Image) → i + m ≤ n → part i m (part at n image) ≡ part (at + i) m image
part-part at n i m image le =
    let k = n - i in
    let is : n ≡ i + k = omega arith in
    ap (λ (j : ℕ). take m (drop i (take j (drop at image)))) is
    ∙ ap (λ (l : Image). take m l) (drop-take i k (drop at image))
    ∙ take-take m k (drop i (drop at image)) (omega arith)
    ∙ ap (λ (l : Image). take m l) (drop-drop i at image)

pub get_or-part : (at n i : ℕ) (image : Image) → i < n → get_or (part at n image) i 0 ≡ get_or image (at + i) 0
get_or-part at n i image lt = get_or-take n (drop at image) i 0 lt ∙ get_or-drop at image i 0
