-- What follows from the definitions, as statements; each is proved as the contract of a function of
-- `laws`.
use Rattle.std.specs.Prelude.{◌≡◌, ℕ, zero, suc, ◌+◌, Bool, true, false, if◌then◌else◌}
use Rattle.lossy_link.specs.declared.fates.Fate.{Fate}
use Rattle.lossy_link.specs.declared.fates.Fate.TheVariants.{Lost, Twice, Late, Plain}
use Rattle.lossy_link.specs.Weathers.{Odds, AreOdds, Climate, fate_of, next_fate, after_fates, word}

-- Fate number n of a weather is decided by word number n of its generator, both counted from 0.
abbrev pub FatesFollowWords : Type 0
FatesFollowWords = (w : Climate) (n : ℕ) → next_fate (after_fates n w) ≡ fate_of w.odds (word n w.generator)

abbrev pub is_lost : Fate → Bool
is_lost Lost = true
is_lost Twice = false
is_lost Late = false
is_lost Plain = false

abbrev pub is_twice : Fate → Bool
is_twice Lost = false
is_twice Twice = true
is_twice Late = false
is_twice Plain = false

abbrev pub is_late : Fate → Bool
is_late Lost = false
is_late Twice = false
is_late Late = true
is_late Plain = false

-- how many of the numbers below n pass a test
unfoldable pub passing : (ℕ → Bool) → ℕ → ℕ
passing p zero = 0
passing p (suc n) = passing p n + (if p n then 1 else 0)

-- Of the thousand words below 1000 just as many lose a parcel as the odds say, and likewise for parcels
-- that go twice and that are late. So the odds are thousandths.
pub record OddsAreThousandths (odds : Odds) : Type 0 where
  pub lose : passing (λ n. is_lost (fate_of odds n)) 1000 ≡ odds.lose
  pub twice : passing (λ n. is_twice (fate_of odds n)) 1000 ≡ odds.twice
  pub late : passing (λ n. is_late (fate_of odds n)) 1000 ≡ odds.late

abbrev pub OddsCount : Type 0
OddsCount = (odds : Odds) → AreOdds odds → OddsAreThousandths odds
