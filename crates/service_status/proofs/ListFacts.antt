-- Lists that grow by a piece for each element.
use Rattle.std.proofs.Common.{◌≡◌, ◌∙◌, ◌++◌, ℕ, ◌+◌, ◌≤◌, Bool, true, false, arith, List, [], ◌∷◌, Some, take, slice_get, get_or, sym, ap, append_assoc}
use Rattle.std.proofs.lemmas.List.{append-nil, take_more}
use Rattle.std.proofs.lemmas.List.Concat.{flat_map-append}
use Rattle.std.proofs.lemmas.Option.{slice_get_within, get_or_from_slice_get}
use Rattle.std.specs.List.{flat_map, count_by}
use Rattle.std.proofs.lemmas.List.Sums.{count_by_more_yes, count_by_more_no}

module _ {X A : Type 0} (f : X → List A) where
  piece_more : (xs : List X) (place : ℕ) (x : X) → slice_get xs place ≡ Some x → flat_map f (take (place + 1) xs) ≡ flat_map f (take place xs) ++ f x
  piece_more xs place x h =
      let within = slice_get_within xs place x h in
      let is = get_or_from_slice_get xs place x x h in
      ap (flat_map f) (take_more xs place x within)
      ∙ flat_map-append f (take place xs) (get_or xs place x ∷ [])
      ∙ ap (λ (bs : List A). flat_map f (take place xs) ++ bs) (append-nil (f (get_or xs place x)) ∙ ap f is)

  -- a piece behind those of the elements before it
  pub pieces_more : (xs : List X) (place : ℕ) (x : X) (front old new : List A) → Some x ≡ slice_get xs place → old ≡ front ++ flat_map f (take place xs) → new ≡ old ++ f x → new ≡ front ++ flat_map f (take (place + 1) xs)
  pieces_more xs place x front old new at h g =
      g ∙ ap (λ (bs : List A). bs ++ f x) h ∙ append_assoc front (flat_map f (take place xs)) (f x)
      ∙ ap (λ (bs : List A). front ++ bs) (sym (piece_more xs place x (sym at)))

-- one element more is counted, or is not
module _ {X : Type 0} (test : X → Bool) where
  abbrev Counts : List X → ℕ → ℕ → Type 0
  Counts xs place count = (count ≡ count_by test (take place xs)) × (count ≤ place)

  pub counted : (xs : List X) (place : ℕ) (x : X) (r : Bool) (count new : ℕ) → Some x ≡ slice_get xs place → Counts xs place count → r ≡ test x → r ≡ true → new ≡ count + 1 → Counts xs (place + 1) new
  counted xs place x r count new at h is passes e =
      let within = slice_get_within xs place x (sym at) in
      let same : get_or xs place x ≡ x = get_or_from_slice_get xs place x x (sym at) in
      (e ∙ ap (λ (n : ℕ). n + 1) h.0 ∙ sym (count_by_more_yes test xs place x within (ap test same ∙ sym is ∙ passes)), omega (arith, h.1))

  pub passed_by : (xs : List X) (place : ℕ) (x : X) (r : Bool) (count new : ℕ) → Some x ≡ slice_get xs place → Counts xs place count → r ≡ test x → r ≡ false → new ≡ count → Counts xs (place + 1) new
  passed_by xs place x r count new at h is fails e =
      let within = slice_get_within xs place x (sym at) in
      let same : get_or xs place x ≡ x = get_or_from_slice_get xs place x x (sym at) in
      (e ∙ h.0 ∙ sym (count_by_more_no test xs place x within (ap test same ∙ sym is ∙ fails)), omega (arith, h.1))
