-- Which two ballots of a list are the first that don't cross, and which is the longest.
use Rattle.std.proofs.Common.{◌≡◌, ℕ, zero, suc, ◌+◌, ◌-◌, ◌<◌, ◌≤◌, ◌⊎◌, Bool, true, false, ◌&&◌, List, [], ◌∷◌, length, get_or, drop, take, replicate, max, Option, Some, None, All, AllPairs, option_map, refl, sym, inl, inr, ◌↔◌, ◌==◌, nat_lt, arith, if◌then◌else◌}
use Rattle.std.proofs.Math.Seq.{take-append_seam}
use Rattle.std.proofs.lemmas.Bool.{and_parts, and_cases, eqb-false, ne_eqb, ltb-true, ltb-false, le-ltb, cases_lt, cases_order}
use Rattle.std.proofs.lemmas.List.{at_drop_more, get_or_read}
use Rattle.std.proofs.lemmas.List.Elements.{All-cons, All-nil}
use Rattle.std.proofs.lemmas.List.Kept.{AllPairs-cons}
use Rattle.std.proofs.lemmas.Option.{some_pair_parts}
use Rattle.std.specs.Option.{option_or}
use Rattle.lock_messages.specs.declared.ids.TheConstants.{MAX_NODES}
use Rattle.lock_model.specs.Ballots.{Ballot, larger_votes, AreCrossing, no_ballot, ballot_at, node_count}
use Rattle.vote_weights.specs.declared.lists.TheConstants.{MAX_BALLOTS}
use Rattle.vote_weights.specs.declared.faults.BallotFault.TheVariants.{BallotsMiss, NoBallot, TooManyBallots}
use Rattle.vote_weights.specs.Ballots.{IsBallot}
use Rattle.vote_weights.specs.BallotLists.{IsBallotList, list_room_of, HoldsBallots}
use Rattle.vote_weights.specs.ListFaults.{are_crossing, missed_by, first_missed, list_fault_of, AreFirstMissed}

-- the test says whether the two ballots cross
AreCrossing-tested : (first second : Ballot) → are_crossing first second ≡ true → AreCrossing first second
AreCrossing-tested first second e =
    let parts = and_parts _ _ e in
    let front = and_parts _ _ parts.0 in
    record {
      reads_meet_writes = ltb-true _ _ front.0;
      writes_meet_reads = ltb-true _ _ front.1;
      writes_meet = ltb-true _ _ parts.1;
    }

not_crossing-tested : (first second : Ballot) → are_crossing first second ≡ false → AreCrossing first second → ⊥
not_crossing-tested first second e x =
    let larger : ℕ = larger_votes first second in
    let no_reads = x.reads_meet_writes in
    let no_others = x.writes_meet_reads in
    let no_writes = x.writes_meet in
    elim (and_cases (nat_lt larger (first.read + second.write) && nat_lt larger (first.write + second.read)) (nat_lt larger (first.write + second.write)) e) [
      | inl front ↦
          elim (and_cases (nat_lt larger (first.read + second.write)) (nat_lt larger (first.write + second.read)) front) [
            | inl reads ↦ absurd (omega (arith, ltb-false larger (first.read + second.write) reads))
            | inr others ↦ absurd (omega (arith, ltb-false larger (first.write + second.read) others))
          ]
      | inr writes ↦ absurd (omega (arith, ltb-false larger (first.write + second.write) writes))
    ]

-- the ballot at an index
abbrev at : List Ballot → ℕ → Ballot
at ballots i = get_or ballots i no_ballot

-- the ballot at an index is the first of the others that doesn't cross with this one
record IsFirstApart (b : Ballot) (others : List Ballot) (j : ℕ) : Type 0 where
  within : j < length others
  miss : AreCrossing b (at others j) → ⊥
  before : (k : ℕ) → k < j → AreCrossing b (at others k)

before-behind : (b other : Ballot) (others : List Ballot) (j : ℕ) → AreCrossing b other → ((k : ℕ) → k < j → AreCrossing b (at others k)) →
    (k : ℕ) → k < suc j → AreCrossing b (at (other ∷ others) k)
before-behind b other others j x h zero lt = x
before-behind b other others j x h (suc k) lt = h k (omega arith)

apart-behind : (b other : Ballot) (others : List Ballot) (j : ℕ) → AreCrossing b other → IsFirstApart b others j → IsFirstApart b (other ∷ others) (suc j)
apart-behind b other others j x h =
    let within = h.within in
    record { within = omega arith; miss = h.miss; before = before-behind b other others j x h.before }

apart-first : (b other : Ballot) (others : List Ballot) → (AreCrossing b other → ⊥) → IsFirstApart b (other ∷ others) zero
apart-first b other others miss = record { within = omega arith; miss = miss; before = λ k lt. absurd (omega arith) }

-- what is told of one ballot and the others behind it
abbrev ToldOfOne : Ballot → ℕ → List Ballot → Option ℕ → Type 0
ToldOfOne b place others None = All (AreCrossing b) others
ToldOfOne b place others (Some q) = (j : ℕ) × (q ≡ place + j) × IsFirstApart b others j

told-behind : (b other : Ballot) (place : ℕ) (others : List Ballot) (r : Option ℕ) → AreCrossing b other → ToldOfOne b (place + 1) others r → ToldOfOne b place (other ∷ others) r
told-behind b other place others None x h = All-cons (AreCrossing b) other others x h
told-behind b other place others (Some q) x h = let e = h.1 in (suc h.0, omega arith, apart-behind b other others h.0 x h.2)

told-step : (b other : Ballot) (place : ℕ) (others : List Ballot) (t : Bool) → are_crossing b other ≡ t → ToldOfOne b (place + 1) others (missed_by b (place + 1) others) →
    ToldOfOne b place (other ∷ others) (if t then missed_by b (place + 1) others else Some place)
told-step b other place others true e h = told-behind b other place others (missed_by b (place + 1) others) (AreCrossing-tested b other e) h
told-step b other place others false e h = (zero, omega arith, apart-first b other others (not_crossing-tested b other e))

told-of-one : (b : Ballot) (place : ℕ) (others : List Ballot) → ToldOfOne b place others (missed_by b place others)
told-of-one b place [] = All-nil (AreCrossing b)
told-of-one b place (other ∷ others) = told-step b other place others (are_crossing b other) refl (told-of-one b (place + 1) others)

-- the ballots at two indices are the first two that don't cross
record AreFirstApart (ballots : List Ballot) (i j : ℕ) : Type 0 where
  within : j < length ballots
  ordered : i < j
  miss : AreCrossing (at ballots i) (at ballots j) → ⊥
  before : (k m : ℕ) → k < m → m < length ballots → ((k < i) ⊎ ((k ≡ i) × (m < j))) → AreCrossing (at ballots k) (at ballots m)

-- what is told of all ballots
abbrev ToldOfAll : ℕ → List Ballot → Option (ℕ × ℕ) → Type 0
ToldOfAll place ballots None = AllPairs AreCrossing ballots
ToldOfAll place ballots (Some r) = (i : ℕ) × (j : ℕ) × (r.0 ≡ place + i) × (r.1 ≡ place + j) × AreFirstApart ballots i j

pairs-before-first : (b : Ballot) (ballots : List Ballot) (j : ℕ) → ((k : ℕ) → k < j → AreCrossing b (at ballots k)) →
    (k m : ℕ) → k < m → ((k < 0) ⊎ ((k ≡ 0) × (m < suc j))) → AreCrossing (at (b ∷ ballots) k) (at (b ∷ ballots) m)
pairs-before-first b ballots j h k zero lt o = absurd (omega arith)
pairs-before-first b ballots j h (suc k) (suc m) lt (inl o) = absurd (omega arith)
pairs-before-first b ballots j h (suc k) (suc m) lt (inr o) = absurd (let e = o.0 in omega arith)
pairs-before-first b ballots j h zero (suc m) lt (inl o) = absurd (omega arith)
pairs-before-first b ballots j h zero (suc m) lt (inr o) = h m (let e = o.1 in omega arith)

pairs-before-behind : (b : Ballot) (ballots : List Ballot) (i j : ℕ) → All (AreCrossing b) ballots →
    ((k m : ℕ) → k < m → m < length ballots → ((k < i) ⊎ ((k ≡ i) × (m < j))) → AreCrossing (at ballots k) (at ballots m)) →
    (k m : ℕ) → k < m → m < length (b ∷ ballots) → ((k < suc i) ⊎ ((k ≡ suc i) × (m < suc j))) → AreCrossing (at (b ∷ ballots) k) (at (b ∷ ballots) m)
pairs-before-behind b ballots i j x h k zero lt within o = absurd (omega arith)
pairs-before-behind b ballots i j x h zero (suc m) lt within o = x m no_ballot (omega arith)
pairs-before-behind b ballots i j x h (suc k) (suc m) lt within (inl o) = h k m (omega arith) (omega arith) (inl (omega arith))
pairs-before-behind b ballots i j x h (suc k) (suc m) lt within (inr o) =
    let same = o.0 in
    let below = o.1 in
    h k m (omega arith) (omega arith) (inr (omega arith, omega arith))

all-told-first : (b : Ballot) (ballots : List Ballot) (place q : ℕ) → ToldOfOne b (place + 1) ballots (Some q) → ToldOfAll place (b ∷ ballots) (Some (place, q))
all-told-first b ballots place q h =
    let e = h.1 in
    let within = h.2.within in (
      zero,
      suc h.0,
      omega arith,
      omega arith,
      record {
        within = omega arith;
        ordered = omega arith;
        miss = h.2.miss;
        before = λ k m lt w o. pairs-before-first b ballots h.0 h.2.before k m lt o;
      },
    )

all-told-behind : (b : Ballot) (ballots : List Ballot) (place : ℕ) (r : Option (ℕ × ℕ)) → All (AreCrossing b) ballots → ToldOfAll (place + 1) ballots r → ToldOfAll place (b ∷ ballots) r
all-told-behind b ballots place None x h = AllPairs-cons AreCrossing b ballots x h
all-told-behind b ballots place (Some r) x h =
    let low = h.2 in
    let high = h.3 in
    let within = h.4.within in
    let ordered = h.4.ordered in (
      suc h.0,
      suc h.1,
      omega arith,
      omega arith,
      record {
        within = omega arith;
        ordered = omega arith;
        miss = h.4.miss;
        before = pairs-before-behind b ballots h.0 h.1 x h.4.before;
      },
    )

all-told-step : (b : Ballot) (ballots : List Ballot) (place : ℕ) (r : Option ℕ) (rest : Option (ℕ × ℕ)) → ToldOfOne b (place + 1) ballots r → ToldOfAll (place + 1) ballots rest →
    ToldOfAll place (b ∷ ballots) (option_or (option_map (λ higher. (place, higher)) r) rest)
all-told-step b ballots place None rest one h = all-told-behind b ballots place rest one h
all-told-step b ballots place (Some q) rest one h = all-told-first b ballots place q one

told-of-all : (place : ℕ) (ballots : List Ballot) → ToldOfAll place ballots (first_missed place ballots)
told-of-all place [] = λ i j d lt within. absurd (omega arith)
told-of-all place (b ∷ ballots) =
    all-told-step b ballots place (missed_by b (place + 1) ballots) (first_missed (place + 1) ballots) (told-of-one b (place + 1) ballots) (told-of-all (place + 1) ballots)

-- in the words of places
places-before : (p q i j lower higher : ℕ) → lower ≡ 1 + i → higher ≡ 1 + j → 1 ≤ p → 1 ≤ q → ((p < lower) ⊎ ((p ≡ lower) × (q < higher))) →
    ((p - 1 < i) ⊎ ((p - 1 ≡ i) × (q - 1 < j)))
places-before p q i j lower higher low high hp hq (inl o) = inl (omega arith)
places-before p q i j lower higher low high hp hq (inr o) =
    let same = o.0 in
    let below = o.1 in
    inr (omega arith, omega arith)

missed-from-apart : (ballots : List Ballot) (lower higher i j : ℕ) → lower ≡ 1 + i → higher ≡ 1 + j → AreFirstApart ballots i j → AreFirstMissed ballots lower higher
missed-from-apart ballots lower higher i j low high h =
    let within = h.within in
    let ordered = h.ordered in
    let e : lower - 1 ≡ i = omega arith in
    let f : higher - 1 ≡ j = omega arith in
    record {
      lower_place = (omega arith, omega arith);
      higher_place = (omega arith, omega arith);
      ordered = omega arith;
      miss = rw (e, f) h.miss;
      others_cross = λ p q hp hq lt o. h.before (p - 1) (q - 1) (omega arith) (omega arith)
          (places-before p q i j lower higher low high hp.0 hq.0 o);
    }

told-missed : (ballots : List Ballot) (r : Option (ℕ × ℕ)) (lower higher : ℕ) → ToldOfAll 1 ballots r → r ≡ Some (lower, higher) → AreFirstMissed ballots lower higher
told-missed ballots None lower higher h e = cc
told-missed ballots (Some r) lower higher h e =
    let parts = some_pair_parts r.0 lower r.1 higher e in
    let low = parts.0 in
    let high = parts.1 in
    let low_at = h.2 in
    let high_at = h.3 in
    missed-from-apart ballots lower higher h.0 h.1 (omega arith) (omega arith) h.4

-- no two pairs are both the first
one-first : (ballots : List Ballot) (p q lower higher : ℕ) → AreFirstMissed ballots p q → AreFirstMissed ballots lower higher → (p ≡ lower) × (q ≡ higher)
one-first ballots p q lower higher h k =
    let ordered = h.ordered in
    let other_ordered = k.ordered in
    elim (cases_order p lower) [
      | inl same ↦
          elim (cases_order q higher) [
            | inl also ↦ (same, also)
            | inr (inl below) ↦ absurd (h.miss (k.others_cross p q h.lower_place h.higher_place ordered (inr (same, below))))
            | inr (inr above) ↦ absurd (k.miss (h.others_cross lower higher k.lower_place k.higher_place other_ordered (inr (sym same, above))))
          ]
      | inr (inl below) ↦ absurd (h.miss (k.others_cross p q h.lower_place h.higher_place ordered (inl below)))
      | inr (inr above) ↦ absurd (k.miss (h.others_cross lower higher k.lower_place k.higher_place other_ordered (inl above)))
    ]

pairs-hold : (ballots : List Ballot) (lower higher : ℕ) → AllPairs AreCrossing ballots → AreFirstMissed ballots lower higher → ⊥
pairs-hold ballots lower higher x h =
    let ordered = h.ordered in
    let low = h.lower_place in
    let high = h.higher_place in
    h.miss (x (lower - 1) (higher - 1) no_ballot (omega (arith, low.0)) (omega (arith, high.0, high.1)))

missed-told : (ballots : List Ballot) (r : Option (ℕ × ℕ)) (lower higher : ℕ) → ToldOfAll 1 ballots r → AreFirstMissed ballots lower higher → r ≡ Some (lower, higher)
missed-told ballots None lower higher h k = absurd (pairs-hold ballots lower higher h k)
missed-told ballots (Some r) lower higher h k =
    let same = one-first ballots r.0 r.1 lower higher (told-missed ballots (Some r) r.0 r.1 h refl) k in
    λ i. Some (same.0 i, same.1 i)

pub first-missed-iff : (ballots : List Ballot) (lower higher : ℕ) → (first_missed 1 ballots ≡ Some (lower, higher)) ↔ AreFirstMissed ballots lower higher
first-missed-iff ballots lower higher =
    (told-missed ballots (first_missed 1 ballots) lower higher (told-of-all 1 ballots), missed-told ballots (first_missed 1 ballots) lower higher (told-of-all 1 ballots))

-- none is told exactly where each two cross
told-none : (ballots : List Ballot) (r : Option (ℕ × ℕ)) → ToldOfAll 1 ballots r → r ≡ None → AllPairs AreCrossing ballots
told-none ballots None h e = h
told-none ballots (Some r) h e = cc

none-told : (ballots : List Ballot) (r : Option (ℕ × ℕ)) → ToldOfAll 1 ballots r → AllPairs AreCrossing ballots → r ≡ None
none-told ballots None h x = refl
none-told ballots (Some r) h x = absurd (pairs-hold ballots r.0 r.1 x (told-missed ballots (Some r) r.0 r.1 h refl))

pub pairs-from-none : (ballots : List Ballot) → first_missed 1 ballots ≡ None → AllPairs AreCrossing ballots
pairs-from-none ballots = told-none ballots (first_missed 1 ballots) (told-of-all 1 ballots)

pub none-from-pairs : (ballots : List Ballot) → AllPairs AreCrossing ballots → first_missed 1 ballots ≡ None
none-from-pairs ballots = none-told ballots (first_missed 1 ballots) (told-of-all 1 ballots)

-- ballots of which each two cross make a list
pub IsBallotList-from : (ballots : List Ballot) → 1 ≤ length ballots → length ballots ≤ MAX_BALLOTS → All IsBallot ballots → first_missed 1 ballots ≡ None → IsBallotList ballots
IsBallotList-from ballots some few each none = record {
  some_ballot = some;
  few_ballots = few;
  each = each;
  cross = record { each = λ k d within. (each k d within).crosses; each_two = pairs-from-none ballots none };
}

-- no fault is told where none of the three applies
no-fault-parts : (a b : Bool) (missed : Option (ℕ × ℕ)) →
    (if a then Some NoBallot else (if b then Some TooManyBallots else option_map (λ places. BallotsMiss places.0 places.1) missed)) ≡ None →
    (a ≡ false) × (b ≡ false) × (missed ≡ None)
no-fault-parts true b missed e = cc
no-fault-parts false true missed e = cc
no-fault-parts false false None e = (refl, refl, refl)
no-fault-parts false false (Some r) e = cc

list-from-no-fault : (ballots : List Ballot) → All IsBallot ballots → list_fault_of ballots ≡ None → IsBallotList ballots
list-from-no-fault ballots each e =
    let parts = no-fault-parts (length ballots == 0) (nat_lt MAX_BALLOTS (length ballots)) (first_missed 1 ballots) e in
    let some = eqb-false (length ballots) 0 parts.0 in
    let few = ltb-false MAX_BALLOTS (length ballots) parts.1 in
    IsBallotList-from ballots (omega (arith, some)) few each parts.2

no-fault-of-list : (ballots : List Ballot) → IsBallotList ballots → list_fault_of ballots ≡ None
no-fault-of-list ballots h =
    let some = h.some_ballot in
    let few = h.few_ballots in
    let not_empty : length ballots == 0 ≡ false = ne_eqb (length ballots) 0 (λ e. omega arith) in
    let not_many : nat_lt MAX_BALLOTS (length ballots) ≡ false = le-ltb MAX_BALLOTS (length ballots) few in
    rw (not_empty, not_many, none-from-pairs ballots h.cross.each_two) refl

pub no-fault-iff : (ballots : List Ballot) → All IsBallot ballots → (list_fault_of ballots ≡ None) ↔ IsBallotList ballots
no-fault-iff ballots each = (list-from-no-fault ballots each, no-fault-of-list ballots)

-- each ballot has few nodes, and so has the longest
pub node_count-le : (ballots : List Ballot) → All IsBallot ballots → node_count ballots ≤ MAX_NODES
node_count-le [] h = omega arith
node_count-le (b ∷ ballots) h =
    let here = (h 0 no_ballot (omega arith)).few_nodes in
    let there = node_count-le ballots (λ k d within. h (suc k) d (omega arith)) in
    omega arith

-- no ballot is longer than the longest
pub length-le-node_count : (ballots : List Ballot) (k : ℕ) (d : Ballot) → k < length ballots → length (get_or ballots k d).votes ≤ node_count ballots
length-le-node_count [] k d h = absurd (omega arith)
length-le-node_count (b ∷ ballots) zero d h = omega arith
length-le-node_count (b ∷ ballots) (suc k) d h =
    let there = length-le-node_count ballots k d (omega arith) in
    omega arith

-- the longest of the ballots that are left
pub node_count-drop : (ballots : List Ballot) (i : ℕ) (d : Ballot) → i < length ballots →
    node_count (drop i ballots) ≡ max (length (get_or ballots i d).votes) (node_count (drop (i + 1) ballots))
node_count-drop ballots i d h = at_drop_more node_count ballots i d h

-- one ballot more that is one
pub IsBallot-more : (ballots : List Ballot) (i : ℕ) (b : Ballot) → i < length ballots → b ≡ get_or ballots i b →
    ((k : ℕ) (d : Ballot) → k < i → IsBallot (get_or ballots k d)) → IsBallot b → (k : ℕ) (d : Ballot) → k < i + 1 → IsBallot (get_or ballots k d)
IsBallot-more ballots i b within e before here k d lt =
    elim (cases_lt k i) [
      | inl below ↦ before k d below
      | inr above ↦
          let same : k ≡ i = omega arith in
          rw (same, ← get_or_read ballots i b within e d) here
    ]

-- a list lies in its room
pub take-room : (ballots : List Ballot) → take (length ballots) (list_room_of ballots) ≡ ballots
take-room ballots = take-append_seam ballots (replicate (MAX_BALLOTS - length ballots) (ballot_at ballots 1))

pub HoldsBallots-room : (ballots : List Ballot) → IsBallotList ballots →
    HoldsBallots (list_room_of ballots) (length ballots) (node_count ballots) (take (length ballots) (list_room_of ballots))
HoldsBallots-room ballots h = rw (take-room ballots) (record { list = h; within = refl; longest = refl; whole = refl })
