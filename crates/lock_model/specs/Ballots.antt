-- Weighted voting (Gifford 1979): each node has a number of votes, a read collects `read` of them
-- and a write `write`, and the numbers are such that a write meets every read and every write.
use Rattle.std.specs.Prelude.{◌≡◌, ℕ, ◌+◌, ◌-◌, ◌*◌, ◌<◌, ◌≤◌, nat_le, max, ◌&&◌, Bool, true, List, [], ◌∷◌, length, All, AllPairs, if◌then◌else◌, slice_index, slice_index_or, sum, sum_by}
use Rattle.std.specs.List.{range_with_len}
use Rattle.lock_messages.specs.declared.tickets.Mode.{Mode}
use Rattle.lock_messages.specs.declared.tickets.Mode.TheVariants.{Read, Write}

-- the votes of each node, node 1 first, and how many a reader and a writer need
pub record Ballot : Type 0 where
  pub votes : List ℕ
  pub read : ℕ
  pub write : ℕ

-- n is one of so many nodes, which are numbered from 1
abbrev pub IsNodeOf : ℕ → ℕ → Type 0
IsNodeOf count n = (1 ≤ n) × (n ≤ count)

-- n is a node of the ballot
abbrev pub HasNode : Ballot → ℕ → Type 0
HasNode b n = IsNodeOf (length b.votes) n

-- the nodes of the ballot, in order
abbrev pub nodes : Ballot → List ℕ
nodes b = range_with_len 1 (length b.votes)

-- how many votes a node has
abbrev pub votes_at : Ballot → ℕ → ℕ
votes_at b n = slice_index b.votes (n - 1)

-- The votes of a set of nodes: the sum, over the ballot's nodes in the set, of what each has.
-- A set is a test; a node in it that is none of the ballot's adds nothing.
abbrev pub votes_of : Ballot → (ℕ → Bool) → ℕ
votes_of b chosen = sum_by (λ n. if chosen n then votes_at b n else 0) (nodes b)

-- all votes of the ballot
abbrev pub total : Ballot → ℕ
total b = sum b.votes

-- how many votes a mode needs
abbrev pub needed : Ballot → Mode → ℕ
needed b Read = b.read
needed b Write = b.write

-- the set's votes are enough for the mode
abbrev pub IsEnough : Ballot → Mode → (ℕ → Bool) → Type 0
IsEnough b mode chosen = needed b mode ≤ votes_of b chosen

-- The ballot crosses: a write has votes in common with every read and with every other write, and
-- the votes suffice for each. (The first is Gifford's; that two writes meet is our own.)
pub record Crosses (b : Ballot) : Type 0 where
  pub reads_meet_writes : total b < b.read + b.write
  pub writes_meet : total b < 2 * b.write
  pub reads_fit : b.read ≤ total b
  pub writes_fit : b.write ≤ total b

-- n is a node of the ballot that is in both sets and has votes
pub record IsShared (b : Ballot) (left right : ℕ → Bool) (n : ℕ) : Type 0 where
  pub node : HasNode b n
  pub in_left : left n ≡ true
  pub in_right : right n ≡ true
  pub has_votes : 0 < votes_at b n

-- the nodes of two ballots, in order: those of the longer one
abbrev pub nodes_of_both : Ballot → Ballot → List ℕ
nodes_of_both first second = range_with_len 1 (max (length first.votes) (length second.votes))

-- The sum, over all nodes, of the larger of a node's votes in the two ballots. A node that one of them
-- doesn't have has no votes there.
abbrev pub larger_votes : Ballot → Ballot → ℕ
larger_votes first second = sum_by (λ n. max (votes_at first n) (votes_at second n)) (nodes_of_both first second)

-- The two ballots cross: a write under either of them and a read or a write under the other have votes at
-- one node, each in its own ballot. (Our own.)
pub record AreCrossing (first second : Ballot) : Type 0 where
  pub reads_meet_writes : larger_votes first second < first.read + second.write
  pub writes_meet_reads : larger_votes first second < first.write + second.read
  pub writes_meet : larger_votes first second < first.write + second.write

-- n is shared under both ballots: it is a node of each, is in both sets, and has votes in each
pub record IsSharedUnderBoth (first second : Ballot) (left right : ℕ → Bool) (n : ℕ) : Type 0 where
  pub under_first : IsShared first left right n
  pub under_second : IsShared second left right n

-- the list has this place: places are numbered from 1
abbrev pub HasPlace : List Ballot → ℕ → Type 0
HasPlace ballots place = (1 ≤ place) × (place ≤ length ballots)

-- the same as a test
abbrev pub has_place : List Ballot → ℕ → Bool
has_place ballots place = nat_le 1 place && nat_le place (length ballots)

-- what stands for the ballot of a place that the list doesn't have
abbrev pub no_ballot : Ballot
no_ballot = record { votes = []; read = 0; write = 0 }

-- the ballot at a place of the list
abbrev pub ballot_at : List Ballot → ℕ → Ballot
ballot_at ballots place = slice_index_or ballots (place - 1) no_ballot

-- how many nodes the ballots of the list have: as many as the longest of them
abbrev pub node_count : List Ballot → ℕ
node_count [] = 0
node_count (b ∷ ballots) = max (length b.votes) (node_count ballots)

-- n is a node of one of the ballots, or of more
abbrev pub HasAnyNode : List Ballot → ℕ → Type 0
HasAnyNode ballots n = IsNodeOf (node_count ballots) n

-- the ballots of the list cross: each of them does, and so do each two
pub record AllCross (ballots : List Ballot) : Type 0 where
  pub each : All Crosses ballots
  pub each_two : AllPairs AreCrossing ballots
