-- Texts that name actors.
use Rattle.std.proofs.Common.{◌≡◌, inl, inr, ℕ, zero, suc, ◌+◌, ◌<◌, ◌≤◌, Bool, true, false, ◌&&◌, ◌||◌, nat_le, nat_lt, List, ◌∷◌, length, None, replicate, slice_index_or, slice_set, refl, sym, ap, ap₂, ◌∙◌, arith, get_or-set_other}
use Rattle.std.proofs.lemmas.Bool.{cases_eq, cases_lt}
use Rattle.std.proofs.lemmas.Bool.Decides.{nat_tests}
use Rattle.std.proofs.lemmas.Grind.{get_or-set_at}
use Rattle.std.specs.List.{slice_split}
use Rattle.service_folders.specs.Cuts.{is_byte}
use Rattle.service_folders.specs.Parts.{span_of_words}
use Rattle.service_folders.proofs.SplitFacts.{some_part}

-- three words and more say nothing
pub three_words : (a b : List ℕ) (mark : ℕ) (rest : List ℕ) → span_of_words (a ∷ b ∷ slice_split (is_byte mark) rest) ≡ None
three_words a b mark rest =
    let part = some_part (is_byte mark) rest in
    ap (λ (ws : List (List ℕ)). span_of_words (a ∷ b ∷ ws)) part.2

-- no number is marked
pub none_marked : (count n : ℕ) → slice_index_or (replicate count false) n false ≡ false
none_marked zero n = refl
none_marked (suc count) zero = refl
none_marked (suc count) (suc n) = none_marked count n

marked_here : (old : Bool) (first n i : ℕ) → n ≡ i → first ≤ i → true ≡ (old || (nat_le first n && nat_lt n (i + 1)))
marked_here true first n i same low = refl
marked_here false first n i same low =
    let a : nat_le first n ≡ true = grind (arith, nat_tests) in
    let b : nat_lt n (i + 1) ≡ true = grind (arith, nat_tests) in
    ap₂ (λ (x y : Bool). x && y) (sym a) (sym b)

-- One number more is marked.
pub one_more : (room : List Bool) (first i n : ℕ) (old : Bool) → i < length room → first ≤ i
    → slice_index_or room n false ≡ (old || (nat_le first n && nat_lt n i))
    → slice_index_or (slice_set room i true) n false ≡ (old || (nat_le first n && nat_lt n (i + 1)))
one_more room first i n old inside low was =
    elim (cases_eq n i) [
      | inl same ↦ get_or-set_at room i n true false same inside ∙ marked_here old first n i same low
      | inr other ↦
          let tests : nat_lt n i ≡ nat_lt n (i + 1) = grind (arith, nat_tests) in
          get_or-set_other room i n true false other ∙ was ∙ ap (λ (t : Bool). old || (nat_le first n && t)) tests
    ]

-- Before the loop no number is marked, and after it each is.
pub none_yet : (old : Bool) (first n : ℕ) → old ≡ (old || (nat_le first n && nat_lt n first))
none_yet true first n = refl
none_yet false first n =
    elim (cases_lt n first) [
      | inl below ↦ let a : nat_le first n ≡ false = grind (arith, nat_tests) in ap (λ (t : Bool). t && nat_lt n first) (sym a)
      | inr above ↦ let b : nat_lt n first ≡ false = grind (arith, nat_tests) in sym (ap (λ (t : Bool). nat_le first n && t) b ∙ and_false (nat_le first n))
    ]
  where
    and_false : (b : Bool) → (b && false) ≡ false
    and_false true = refl
    and_false false = refl

pub all_marked : (first last i n : ℕ) → last < i → (first ≤ last + 1 → i ≤ last + 1) → (last < first → i ≡ first)
    → (nat_le first n && nat_lt n i) ≡ (nat_le first n && nat_le n last)
all_marked first last i n past near none =
    elim (cases_lt last first) [
      | inl empty ↦
          elim (cases_lt n first) [
            | inl below ↦ let a : nat_le first n ≡ false = grind (arith, nat_tests) in rw a refl
            | inr above ↦ let i_first = none empty in let b : nat_lt n i ≡ false = grind (arith, nat_tests) in let d : nat_le n last ≡ false = grind (arith, nat_tests) in ap (λ (t : Bool). nat_le first n && t) (b ∙ sym d)
          ]
      | inr some ↦
          let end : i ≤ last + 1 = near (omega (arith, some)) in
          let same : nat_lt n i ≡ nat_le n last = grind (arith, nat_tests) in
          ap (λ (t : Bool). nat_le first n && t) same
    ]
