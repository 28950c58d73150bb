-- Which ballots make a list, and how a list lies in a room of a fixed size.
use Rattle.std.specs.Prelude.{◌≡◌, ℕ, ◌-◌, ◌≤◌, List, ◌++◌, length, All, replicate}
use Rattle.lock_model.specs.Ballots.{Ballot, AllCross, ballot_at, node_count}
use Rattle.vote_weights.specs.declared.lists.TheConstants.{MAX_BALLOTS}
use Rattle.vote_weights.specs.Ballots.{IsBallot}

-- the ballots make a list: there are 1 to `MAX_BALLOTS`, each is a ballot, and they cross
pub record IsBallotList (ballots : List Ballot) : Type 0 where
  pub some_ballot : 1 ≤ length ballots
  pub few_ballots : length ballots ≤ MAX_BALLOTS
  pub each : All IsBallot ballots
  pub cross : AllCross ballots

-- the ballots, and the first one again in each place behind them
abbrev pub list_room_of : List Ballot → List Ballot
list_room_of ballots = ballots ++ replicate (MAX_BALLOTS - length ballots) (ballot_at ballots 1)

-- the room holds the ballots of a list, of which there are `size`, and the first one again behind them;
-- the longest of them has so many nodes
pub record HoldsBallots (room : List Ballot) (size nodes : ℕ) (ballots : List Ballot) : Type 0 where
  pub list : IsBallotList ballots
  pub within : length ballots ≡ size
  pub longest : node_count ballots ≡ nodes
  pub whole : list_room_of ballots ≡ room
