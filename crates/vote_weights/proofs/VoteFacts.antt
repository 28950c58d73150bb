-- Sums of votes over the nodes of a ballot.
use Rattle.std.proofs.Common.{◌≡◌, ℕ, ◌+◌, ◌-◌, ◌<◌, ◌≤◌, Bool, true, false, List, [], ◌∷◌, ◌++◌, length, get_or, slice_index, max, Fits, w8, sum, sum_by, take, map, replicate, refl, inl, inr, arith, if◌then◌else◌}
use Rattle.std.proofs.Math.Seq.{take-append_seam}
use Rattle.std.proofs.lemmas.Bool.{cases_lt}
use Rattle.std.proofs.lemmas.List.{map-id, get_or_past}
use Rattle.std.proofs.lemmas.List.Elements.{All-from_get_or}
use Rattle.std.proofs.lemmas.List.FromFn.{map-range_with_len_more}
use Rattle.std.proofs.lemmas.List.Sums.{sum_by_push, sum_by-le}
use Rattle.std.specs.List.{All, range_with_len}
use Rattle.lock_messages.specs.declared.ids.TheConstants.{MAX_NODES}
use Rattle.lock_model.specs.Ballots.{Ballot, total, IsShared}
use Rattle.vote_weights.specs.Ballots.{IsBallot, HoldsBallot, ballot_of, room_of}
use Rattle.vote_weights.specs.Sets.{has_node, marks_of}
use Rattle.vote_weights.proofs.SetFacts.{get_or-marks_of}

-- the votes that a node has, if it is in the set
abbrev pub votes_if : List ℕ → (ℕ → Bool) → ℕ → ℕ
votes_if votes chosen n = if chosen n then slice_index votes (n - 1) else 0

-- the votes of the set's nodes among the first ones
unfoldable pub votes_before : List ℕ → (ℕ → Bool) → ℕ → ℕ
votes_before votes chosen count = sum_by (votes_if votes chosen) (range_with_len 1 count)

range_more : (n : ℕ) → range_with_len 1 (n + 1) ≡ range_with_len 1 n ++ (n + 1) ∷ []
range_more n =
    let e : map (λ (k : ℕ). k) (range_with_len 1 (n + 1)) ≡ map (λ (k : ℕ). k) (range_with_len 1 n) ++ (n + 1) ∷ [] =
    map-range_with_len_more (λ k. k) 1 n (n + 1) (omega arith) in
    rw (map-id (range_with_len 1 (n + 1)), map-id (range_with_len 1 n)) at e

pub votes_before_more : (votes : List ℕ) (chosen : ℕ → Bool) (i : ℕ) →
    votes_before votes chosen (i + 1) ≡ votes_before votes chosen i + votes_if votes chosen (i + 1)
unfolding votes_before
votes_before_more votes chosen i = rw (range_more i) (sum_by_push (votes_if votes chosen) (range_with_len 1 i) (i + 1))

-- a ballot lies in its room
pub HoldsBallot-room_of : (votes : List ℕ) (read write : ℕ) → IsBallot (ballot_of votes read write) → All (λ v. v ≤ 255) votes →
    HoldsBallot (room_of votes) (length votes) (ballot_of (take (length votes) (room_of votes)) read write)
HoldsBallot-room_of votes read write b few =
    let e : take (length votes) (room_of votes) ≡ votes = take-append_seam votes (replicate (MAX_NODES - length votes) 0) in
    rw e (record { ballot = b; few_votes = few; within = refl; whole = refl })

pub votes_before_in : (votes : List ℕ) (set : List ℕ) (i : ℕ) → i < MAX_NODES → get_or (marks_of set) i false ≡ true →
    votes_before votes (has_node set) (i + 1) ≡ votes_before votes (has_node set) i + slice_index votes i
votes_before_in votes set i h e =
    let m = get_or-marks_of set i h in
    let t : has_node set (i + 1) ≡ true = cc in
    let k : i + 1 - 1 ≡ i = omega arith in
    rw (votes_before_more votes (has_node set) i, t, k) refl

pub votes_before_out : (votes : List ℕ) (set : List ℕ) (i : ℕ) → i < MAX_NODES → get_or (marks_of set) i false ≡ false →
    votes_before votes (has_node set) (i + 1) ≡ votes_before votes (has_node set) i
votes_before_out votes set i h e =
    let m = get_or-marks_of set i h in
    let t : has_node set (i + 1) ≡ false = cc in
    rw (votes_before_more votes (has_node set) i, t) (omega arith)

-- bytes are small, and so are their sums
pub few-from-bytes : (votes : List ℕ) → ((i : ℕ) → Fits w8 (get_or votes i 0)) → All (λ v. v ≤ 255) votes
few-from-bytes votes h = All-from_get_or (λ v. v ≤ 255) votes 0 (λ i _. let r = h i in omega arith)

pub sum-le-bytes : (votes : List ℕ) → ((i : ℕ) → Fits w8 (get_or votes i 0)) → length votes ≤ MAX_NODES → sum votes ≤ 4080
sum-le-bytes votes h few = let r = sum_by-le (λ v. v) 255 votes (few-from-bytes votes h) in omega arith

-- a reader and a writer need no more than all votes
total_in_range : (room : List ℕ) (size : ℕ) (b : Ballot) → HoldsBallot room size b → total b ≤ 4080
total_in_range room size b h =
    let r = sum_by-le (λ v. v) 255 b.votes h.few_votes in
    omega (arith, h.ballot.few_nodes)

pub needs_in_range : (room : List ℕ) (size : ℕ) (b : Ballot) → HoldsBallot room size b → (b.read ≤ 4080) × (b.write ≤ 4080)
needs_in_range room size b h =
    let r = total_in_range room size b h in
    (omega (arith, h.ballot.crosses.reads_fit), omega (arith, h.ballot.crosses.writes_fit))

-- the node at an index is shared exactly where both sets have its mark and it has votes
pub record IsSharedAt (votes left right : List ℕ) (i : ℕ) : Type 0 where
  pub in_left : get_or (marks_of left) i false ≡ true
  pub in_right : get_or (marks_of right) i false ≡ true
  pub has_votes : 0 < get_or votes i 0

within-votes : (votes : List ℕ) (i : ℕ) → 0 < get_or votes i 0 → i < length votes
within-votes votes i h =
    elim (cases_lt i (length votes)) [
      | inl within ↦ within
      | inr past ↦ absurd (omega (arith, get_or_past votes i 0 past))
    ]

-- (An index with votes is within the ballot.)
pub IsShared-at : (b : Ballot) (left right : List ℕ) (i n : ℕ) → n ≡ i + 1 → i < MAX_NODES → IsSharedAt b.votes left right i →
    IsShared b (has_node left) (has_node right) n
IsShared-at b left right i n e few h =
    let l = get_or-marks_of left i few in
    let r = get_or-marks_of right i few in
    let in_left = h.in_left in
    let in_right = h.in_right in
    let within : i < length b.votes = within-votes b.votes i h.has_votes in
    let k : i + 1 - 1 ≡ i = omega arith in
    rw e (record {
      node = (omega arith, omega arith);
      in_left = cc;
      in_right = cc;
      has_votes = rw k h.has_votes;
    })

pub IsSharedAt-from : (b : Ballot) (left right : List ℕ) (i n : ℕ) → i < MAX_NODES → n ≡ i + 1 →
    IsShared b (has_node left) (has_node right) n → IsSharedAt b.votes left right i
IsSharedAt-from b left right i n few e h =
    let l = get_or-marks_of left i few in
    let r = get_or-marks_of right i few in
    let k : i + 1 - 1 ≡ i = omega arith in
    let s : IsShared b (has_node left) (has_node right) (i + 1) = rw e at h in
    let in_left = s.in_left in
    let in_right = s.in_right in
    record { in_left = cc; in_right = cc; has_votes = rw k at s.has_votes }

-- the larger votes of two ballots at the first nodes
unfoldable pub larger_before : List ℕ → List ℕ → ℕ → ℕ
larger_before first second count = sum_by (λ n. max (slice_index first (n - 1)) (slice_index second (n - 1))) (range_with_len 1 count)

pub larger_before_more : (first second : List ℕ) (i : ℕ) →
    larger_before first second (i + 1) ≡ larger_before first second i + max (slice_index first i) (slice_index second i)
unfolding larger_before
larger_before_more first second i =
    let k : i + 1 - 1 ≡ i = omega arith in
    let e = sum_by_push (λ n. max (slice_index first (n - 1)) (slice_index second (n - 1))) (range_with_len 1 i) (i + 1) in
    rw (range_more i) (rw k at e)
