-- Numbers in order.
use Rattle.std.proofs.Common.{◌≡◌, ◌⊎◌, inl, inr, ℕ, ◌+◌, ◌<◌, ◌≤◌, List, [], ◌∷◌, zero, suc, arith}
use Rattle.std.proofs.lemmas.Bool.{cases_order}
use Rattle.std.specs.List.{All, AllPairs, range_with_len}
use Rattle.std.proofs.lemmas.List.Elements.{All-nil, All-cons, All-weaker}
use Rattle.std.proofs.lemmas.List.Kept.{AllPairs-cons}
use Rattle.lock_model.specs.Decisions.{Among}

-- each number is smaller than all behind it
abbrev pub InOrder : List ℕ → Type 0
InOrder numbers = AllPairs (λ m n. m < n) numbers

-- those behind the first are above it, and in order
pub all_above : (n : ℕ) (ns : List ℕ) → InOrder (n ∷ ns) → All (λ m. n < m) ns
all_above n ns order k d within = order zero (suc k) d (omega arith) (omega arith)

pub rest_in_order : (n : ℕ) (ns : List ℕ) → InOrder (n ∷ ns) → InOrder ns
rest_in_order n ns order i j d lower within = order (suc i) (suc j) d (omega arith) (omega arith)

one_more : (n : ℕ) (ns : List ℕ) → All (λ m. n < m) ns → InOrder ns → InOrder (n ∷ ns)
one_more n ns above order = AllPairs-cons (λ m k. m < k) n ns above order

pub none_in_order : InOrder []
none_in_order = λ i j d lower within. absurd (omega arith)

-- the numbers of a range
pub range_within : (low count : ℕ) → All (λ n. (low ≤ n) × (n < low + count)) (range_with_len low count)
range_within low zero = All-nil (λ n. (low ≤ n) × (n < low + zero))
range_within low (suc count) =
    let wider : (n : ℕ) → (low + 1 ≤ n) × (n < low + 1 + count) → (low ≤ n) × (n < low + suc count) = λ n h. (omega (arith, h.0), omega (arith, h.1)) in
    All-cons (λ n. (low ≤ n) × (n < low + suc count)) low (range_with_len (low + 1) count) (omega arith, omega arith)
    (All-weaker (λ n. (low + 1 ≤ n) × (n < low + 1 + count)) (λ n. (low ≤ n) × (n < low + suc count)) wider (range_with_len (low + 1) count) (range_within (low + 1) count))

pub range_in_order : (low count : ℕ) → InOrder (range_with_len low count)
range_in_order low zero = none_in_order
range_in_order low (suc count) =
    let above : (n : ℕ) → (low + 1 ≤ n) × (n < low + 1 + count) → low < n = λ n h. omega (arith, h.0) in
    one_more low (range_with_len (low + 1) count) (All-weaker (λ n. (low + 1 ≤ n) × (n < low + 1 + count)) (λ n. low < n) above (range_with_len (low + 1) count) (range_within (low + 1) count))
    (range_in_order (low + 1) count)

-- a number of a range is among it
first_or_behind : (n low : ℕ) (ns : List ℕ) → low ≤ n → (low + 1 ≤ n → Among n ns) → Among n (low ∷ ns)
first_or_behind n low ns above behind = go (cases_order n low)
  where
    go : (n ≡ low) ⊎ ((n < low) ⊎ (low < n)) → Among n (low ∷ ns)
    go (inl same) = inl same
    go (inr (inl under)) = absurd (omega (arith, above, under))
    go (inr (inr over)) = inr (behind (omega (arith, over)))

pub range_among : (n low count : ℕ) → low ≤ n → n < low + count → Among n (range_with_len low count)
range_among n low zero above below = absurd (omega (arith, above, below))
range_among n low (suc count) above below = first_or_behind n low (range_with_len (low + 1) count) above (λ over. range_among n (low + 1) count over (omega (arith, below)))
