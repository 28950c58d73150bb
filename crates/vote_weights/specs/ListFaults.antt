-- What is wrong with ballots that make no list.
use Rattle.std.specs.Prelude.{◌≡◌, ℕ, ◌+◌, ◌<◌, ◌==◌, ◌&&◌, ◌↔◌, ◌⊎◌, Bool, List, [], ◌∷◌, length, All, nat_lt, if◌then◌else◌, Option, Some, None, Result, Ok, Err, option_map}
use Rattle.std.specs.Option.{option_or}
use Rattle.lock_model.specs.Ballots.{Ballot, larger_votes, AreCrossing, HasPlace, ballot_at}
use Rattle.vote_weights.specs.declared.lists.TheConstants.{MAX_BALLOTS}
use Rattle.vote_weights.specs.declared.faults.BallotFault.{BallotFault}
use Rattle.vote_weights.specs.declared.faults.BallotFault.TheVariants.{BallotsMiss, NoBallot, TooManyBallots}
use Rattle.vote_weights.specs.Ballots.{IsBallot}
use Rattle.vote_weights.specs.BallotLists.{IsBallotList}

-- whether two ballots cross, as a test
abbrev pub are_crossing : Ballot → Ballot → Bool
are_crossing first second =
    nat_lt (larger_votes first second) (first.read + second.write)
    && nat_lt (larger_votes first second) (first.write + second.read)
    && nat_lt (larger_votes first second) (first.write + second.write)

-- the place of the first of the others that doesn't cross with the ballot, where the others stand at this
-- place and behind it
abbrev pub missed_by : Ballot → ℕ → List Ballot → Option ℕ
missed_by b place [] = None
missed_by b place (other ∷ others) = if are_crossing b other then missed_by b (place + 1) others else Some place

-- The places of the first two ballots that don't cross, the lower one first, where the ballots stand at
-- this place and behind it. Pairs come in the order of their lower places, and those of one lower place in
-- that of their higher ones.
abbrev pub first_missed : ℕ → List Ballot → Option (ℕ × ℕ)
first_missed place [] = None
first_missed place (b ∷ ballots) =
    option_or (option_map (λ higher. (place, higher)) (missed_by b (place + 1) ballots)) (first_missed (place + 1) ballots)

-- what is wrong with the ballots: the first that applies
abbrev pub list_fault_of : List Ballot → Option BallotFault
list_fault_of ballots =
    if length ballots == 0 then Some NoBallot
    else (if nat_lt MAX_BALLOTS (length ballots) then Some TooManyBallots
    else option_map (λ places. BallotsMiss places.0 places.1) (first_missed 1 ballots))

-- the list, or the fault where there is one
abbrev pub list_unless : Option BallotFault → List Ballot → Result (List Ballot) BallotFault
list_unless None ballots = Ok ballots
list_unless (Some fault) ballots = Err fault

-- ballots have no fault exactly where they make a list
abbrev pub OnlyListsHaveNoFault : Type 0
OnlyListsHaveNoFault = (ballots : List Ballot) → All IsBallot ballots → (list_fault_of ballots ≡ None) ↔ IsBallotList ballots

-- The ballots at these two places don't cross, and all pairs before them do: those whose lower place is
-- lower, and those that have the same one and whose higher place is lower.
pub record AreFirstMissed (ballots : List Ballot) (lower higher : ℕ) : Type 0 where
  pub lower_place : HasPlace ballots lower
  pub higher_place : HasPlace ballots higher
  pub ordered : lower < higher
  pub miss : ¬ (AreCrossing (ballot_at ballots lower) (ballot_at ballots higher))
  pub others_cross : (p q : ℕ) → HasPlace ballots p → HasPlace ballots q → p < q → ((p < lower) ⊎ ((p ≡ lower) × (q < higher))) →
      AreCrossing (ballot_at ballots p) (ballot_at ballots q)

-- the two places that are told are those of the first two ballots that don't cross
abbrev pub FirstMissedAreTold : Type 0
FirstMissedAreTold = (ballots : List Ballot) (lower higher : ℕ) → (first_missed 1 ballots ≡ Some (lower, higher)) ↔ AreFirstMissed ballots lower higher
