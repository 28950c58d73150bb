-- Which numbers make a ballot, and how a ballot lies in a room of a fixed size.
use Rattle.std.specs.Prelude.{◌≡◌, ℕ, ◌-◌, ◌≤◌, List, ◌++◌, length, All, replicate}
use Rattle.lock_messages.specs.declared.ids.TheConstants.{MAX_NODES}
use Rattle.lock_model.specs.Ballots.{Ballot, Crosses}

-- the numbers of a ballot, whether they make one or not
abbrev pub ballot_of : List ℕ → ℕ → ℕ → Ballot
ballot_of votes read write = record { votes = votes; read = read; write = write }

-- the numbers make a ballot: it has 1 to `MAX_NODES` nodes, and it crosses
pub record IsBallot (b : Ballot) : Type 0 where
  pub some_node : 1 ≤ length b.votes
  pub few_nodes : length b.votes ≤ MAX_NODES
  pub crosses : Crosses b

-- the votes, and zeros up to the greatest number of nodes
abbrev pub room_of : List ℕ → List ℕ
room_of votes = votes ++ replicate (MAX_NODES - length votes) 0

-- the room holds the votes of the ballot's nodes, of which there are `size`, and zeros behind them
pub record HoldsBallot (room : List ℕ) (size : ℕ) (b : Ballot) : Type 0 where
  pub ballot : IsBallot b
  pub few_votes : All (λ v. v ≤ 255) b.votes
  pub within : length b.votes ≡ size
  pub whole : room_of b.votes ≡ room
