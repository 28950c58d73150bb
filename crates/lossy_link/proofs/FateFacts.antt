-- On fates, words and odds.
use Rattle.std.proofs.Common.{◌≡◌, ℕ, zero, suc, ◌+◌, ◌%◌, ◌<◌, ◌≤◌, min, Bool, true, false, cond, ltb, refl, ap, ◌∙◌, arith}
use Rattle.std.proofs.Math.Nat.{mod-eq_of_lt}
use Rattle.std.proofs.lemmas.Bool.Decides.{nat_tests}
use Rattle.lossy_link.specs.declared.fates.Fate.{Fate}
use Rattle.lossy_link.specs.declared.fates.Fate.TheVariants.{Lost, Twice, Late, Plain}
use Rattle.lossy_link.specs.Weathers.{Odds, fate_of, after_fate}
use Rattle.lossy_link.specs.Laws.{FatesFollowWords, is_lost, is_twice, is_late, passing, OddsCount}

pub fates_follow_words : FatesFollowWords
fates_follow_words w zero = refl
fates_follow_words w (suc n) = fates_follow_words (after_fate w) n

-- the fate by the three tests
abbrev choice : Bool → Bool → Bool → Fate
choice a b c = cond a Lost (cond b Twice (cond c Late Plain))

lost_by : (a b c : Bool) → is_lost (choice a b c) ≡ a
lost_by true b c = refl
lost_by false true c = refl
lost_by false false true = refl
lost_by false false false = refl

twice_by : (a b c : Bool) → is_twice (choice a b c) ≡ cond a false b
twice_by true b c = refl
twice_by false true c = refl
twice_by false false true = refl
twice_by false false false = refl

late_by : (a b c : Bool) → is_late (choice a b c) ≡ cond a false (cond b false c)
late_by true b c = refl
late_by false true c = refl
late_by false false true = refl
late_by false false false = refl

-- one number more, which passes where it is at least a and below b
one_more : (a b n count : ℕ) → a ≤ b → count + min a n ≡ min b n → (count + cond (cond (ltb n a) false (ltb n b)) 1 0) + min a (suc n) ≡ min b (suc n)
one_more a b n count low before = grind (arith, nat_tests)

-- how many of the numbers below n pass, where just those from a up to b do
passing_between : (p : ℕ → Bool) (a b n : ℕ) → a ≤ b → ((k : ℕ) → k < n → p k ≡ cond (ltb k a) false (ltb k b)) → passing p n + min a n ≡ min b n
unfolding passing
passing_between p a b zero low each = omega arith
passing_between p a b (suc n) low each =
    let before = passing_between p a b n low (λ k h. each k (omega arith)) in
    let here = each n (omega arith) in rw here (one_more a b n (passing p n) low before)

from_zero : (k b : ℕ) → ltb k b ≡ cond (ltb k 0) false (ltb k b)
from_zero k b = grind (arith, nat_tests)

late_alone : (k a b c : ℕ) → a ≤ b → cond (ltb k a) false (cond (ltb k b) false (ltb k c)) ≡ cond (ltb k b) false (ltb k c)
late_alone k a b c low = grind (arith, nat_tests)

lost_at : (odds : Odds) (k : ℕ) → k < 1000 → is_lost (fate_of odds k) ≡ cond (ltb k 0) false (ltb k odds.lose)
lost_at odds k h =
    let draw = k % 1000 in
    lost_by (ltb draw odds.lose) (ltb draw (odds.lose + odds.twice)) (ltb draw (odds.lose + odds.twice + odds.late))
    ∙ (ap (λ d. ltb d odds.lose) (mod-eq_of_lt h) ∙ from_zero k odds.lose)

twice_at : (odds : Odds) (k : ℕ) → k < 1000 → is_twice (fate_of odds k) ≡ cond (ltb k odds.lose) false (ltb k (odds.lose + odds.twice))
twice_at odds k h =
    let draw = k % 1000 in
    twice_by (ltb draw odds.lose) (ltb draw (odds.lose + odds.twice)) (ltb draw (odds.lose + odds.twice + odds.late))
    ∙ ap (λ d. cond (ltb d odds.lose) false (ltb d (odds.lose + odds.twice))) (mod-eq_of_lt h)

late_at : (odds : Odds) (k : ℕ) → k < 1000 → is_late (fate_of odds k) ≡ cond (ltb k (odds.lose + odds.twice)) false (ltb k (odds.lose + odds.twice + odds.late))
late_at odds k h =
    let draw = k % 1000 in
    let a = odds.lose in
    let b = odds.lose + odds.twice in
    let c = odds.lose + odds.twice + odds.late in
    late_by (ltb draw a) (ltb draw b) (ltb draw c)
    ∙ (ap (λ d. cond (ltb d a) false (cond (ltb d b) false (ltb d c))) (mod-eq_of_lt h) ∙ late_alone k a b c (omega arith))

pub odds_count : OddsCount
odds_count odds few =
    let a = odds.lose in
    let b = odds.lose + odds.twice in
    let c = odds.lose + odds.twice + odds.late in
    let lost = passing_between (λ n. is_lost (fate_of odds n)) 0 a 1000 (omega arith) (lost_at odds) in
    let twice = passing_between (λ n. is_twice (fate_of odds n)) a b 1000 (omega arith) (twice_at odds) in
    let late = passing_between (λ n. is_late (fate_of odds n)) b c 1000 (omega arith) (late_at odds) in
    record { lose = omega arith; twice = omega arith; late = omega arith }
