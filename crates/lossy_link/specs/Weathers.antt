-- The weather: what becomes of each parcel, by the words of a generator.
use Rattle.std.specs.Prelude.{ℕ, zero, suc, ◌+◌, ◌%◌, ◌^◌, ◌≤◌, nat_lt, if◌then◌else◌}
use Rattle.rand_core.specs.Pcg32Seed.{pcg32_seed}
use Rattle.rand_pcg.specs.Lcg.{Lcg}
use Rattle.rand_pcg.specs.Pcg.{pcg32, pcg32_of_seed}
use Rattle.lossy_link.specs.declared.fates.Fate.{Fate}
use Rattle.lossy_link.specs.declared.fates.Fate.TheVariants.{Lost, Twice, Late, Plain}

-- how many parcels of a thousand are lost, go twice and are late
pub record Odds : Type 0 where
  pub lose : ℕ
  pub twice : ℕ
  pub late : ℕ

abbrev pub odds_of : ℕ → ℕ → ℕ → Odds
odds_of lose twice late = record { lose = lose; twice = twice; late = late }

-- no more than a thousand of a thousand
abbrev pub AreOdds : Odds → Type 0
AreOdds odds = odds.lose + odds.twice + odds.late ≤ 1000

-- a weather: the number that it was made with, its odds, and its generator as it stands
pub record Climate : Type 0 where
  pub seed : ℕ
  pub odds : Odds
  pub generator : Lcg

-- the fate that a word decides: by what is left of it over thousands
abbrev pub fate_of : Odds → ℕ → Fate
fate_of odds word =
    let draw = word % 1000 in
    if nat_lt draw odds.lose then Lost
    else (if nat_lt draw (odds.lose + odds.twice) then Twice
    else (if nat_lt draw (odds.lose + odds.twice + odds.late) then Late else Plain))

-- the weather of a number, before its first fate
-- The words of the generator are what rand_pcg says.
abbrev pub climate_of : ℕ → Odds → Climate
climate_of seed odds = record { seed = seed; odds = odds; generator = pcg32_of_seed (pcg32_seed 16 seed) }

-- the weather at a place: the place is added to the number, in 64 bits
abbrev pub climate_at : Climate → ℕ → Climate
climate_at w place = climate_of ((w.seed + place) % 2 ^ 64) w.odds

-- the next fate, and the weather after it: one word is drawn
abbrev pub next_fate : Climate → Fate
next_fate w = fate_of w.odds (pcg32 w.generator).0

abbrev pub after_fate : Climate → Climate
after_fate w = record { seed = w.seed; odds = w.odds; generator = (pcg32 w.generator).1 }

-- the weather after so many fates
abbrev pub after_fates : ℕ → Climate → Climate
after_fates zero w = w
after_fates (suc n) w = after_fates n (after_fate w)

-- a generator's word, counted from 0
abbrev pub word : ℕ → Lcg → ℕ
word zero g = (pcg32 g).0
word (suc n) g = word n (pcg32 g).1
