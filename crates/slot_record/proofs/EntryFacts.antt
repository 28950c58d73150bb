-- The buffer that is filled.
use Rattle.std.proofs.Common.{◌≡◌, ℕ, ◌+◌, ◌-◌, ◌≤◌, List, ◌++◌, length, take, drop, ◌∙◌, ap, arith, length-append}
use Rattle.std.proofs.lemmas.List.{take_at, length-take}
use Rattle.std.proofs.lemmas.Slice.{take-put_mid}
use borrow.Rule.Slice.PartMut.{put_mid}

module _ (a b c old : List ℕ) (la : length a ≡ 8) (lb : length b ≡ 4) where
  with_a : List ℕ
  with_a = a ++ drop 8 old

  front_a : take 8 with_a ≡ a
  unfolding with_a
  front_a = take_at a (drop 8 old) 8 la

  long_a : 8 ≤ length with_a
  unfolding with_a
  long_a = omega (arith, length-append a (drop 8 old), la)

  front_b : take 12 (put_mid 8 4 with_a b) ≡ a ++ b
  front_b = take-put_mid 8 4 with_a b 12 (omega (arith, lb)) long_a ∙ ap (λ (l : List ℕ). l ++ b) front_a

  long_b : 12 ≤ length (put_mid 8 4 with_a b)
  long_b = omega (arith, length-take 12 (put_mid 8 4 with_a b), ap (λ (l : List ℕ). length l) front_b, length-append a b, la, lb)

  pub filled_front : (n : ℕ) → n ≡ length c → take (12 + n) (put_mid 12 (12 + n - 12) (put_mid 8 4 (a ++ drop 8 old) b) c) ≡ a ++ b ++ c
  unfolding with_a
  filled_front n is = take-put_mid 12 (12 + n - 12) (put_mid 8 4 with_a b) c (12 + n) (omega (arith, is)) long_b ∙ ap (λ (l : List ℕ). l ++ c) front_b
