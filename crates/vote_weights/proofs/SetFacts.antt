-- Sets of nodes, as lists of members and as marks.
use Rattle.std.proofs.Common.{◌≡◌, ℕ, zero, suc, ◌+◌, ◌-◌, ◌<◌, ◌≤◌, ◌==◌, Bool, true, false, ◌||◌, List, [], ◌∷◌, length, map, nat_lt, get_or, refl, ap, sym, subst, arith, if◌then◌else◌}
use Rattle.std.proofs.Math.ListN.{set}
use Rattle.std.proofs.lemmas.Bool.Decides.{nat_tests}
use Rattle.std.proofs.lemmas.List.{length-set}
use Rattle.std.proofs.lemmas.List.Elements.{All-cons, All-nil, All-weaker}
use Rattle.std.proofs.lemmas.List.FromFn.{length-map-range_with_len, get_or-map-range_with_len}
use Rattle.std.specs.List.{All, range_with_len}
use Rattle.std.specs.List.Sorted.{IsStrictlyIncreasing}
use Rattle.lock_messages.specs.Ids.{IsNode}
use Rattle.lock_messages.specs.declared.ids.TheConstants.{MAX_NODES}
use Rattle.vote_weights.specs.Sets.{has_node, with_node, IsNodeSet, members_from, marks_of}

-- whether a node has a mark is whether it is a member
has_node-before : (k n : ℕ) (marks : List Bool) → k < n → has_node (members_from n marks) k ≡ false
has_node-before k n [] h = refl
has_node-before k n (true ∷ marks) h = grind (arith, nat_tests, has_node-before k (n + 1) marks (omega arith))
has_node-before k n (false ∷ marks) h = has_node-before k (n + 1) marks (omega arith)

has_node-members : (n i k : ℕ) (marks : List Bool) → k ≡ n + i → has_node (members_from n marks) k ≡ get_or marks i false
has_node-members n i k [] e = refl
has_node-members n zero k (true ∷ marks) e = grind (arith, nat_tests)
has_node-members n zero k (false ∷ marks) e = has_node-before k (n + 1) marks (omega arith)
has_node-members n (suc i) k (true ∷ marks) e = grind (arith, nat_tests, has_node-members (n + 1) i k marks (omega arith))
has_node-members n (suc i) k (false ∷ marks) e = has_node-members (n + 1) i k marks (omega arith)

-- a node with a mark is a member in its place
with_node-before : (k n : ℕ) (marks : List Bool) → k < n → with_node (members_from n marks) k ≡ k ∷ members_from n marks
with_node-before k n [] h = refl
with_node-before k n (true ∷ marks) h =
    let e : nat_lt k n ≡ true = grind (arith, nat_tests) in
    rw e refl
with_node-before k n (false ∷ marks) h = with_node-before k (n + 1) marks (omega arith)

with_node-members : (n i k : ℕ) (marks : List Bool) → k ≡ n + i → i < length marks → with_node (members_from n marks) k ≡ members_from n (set marks i true)
with_node-members n i k [] e h = absurd (omega arith)
with_node-members n zero k (true ∷ marks) e h =
    let same : k ≡ n = omega arith in
    let low : nat_lt n n ≡ false = grind (arith, nat_tests) in
    let eq : n == n ≡ true = grind (arith, nat_tests) in
    rw (same, low, eq) refl
with_node-members n zero k (false ∷ marks) e h =
    let same : k ≡ n = omega arith in
    rw same (with_node-before n (n + 1) marks (omega arith))
with_node-members n (suc i) k (true ∷ marks) e h =
    let low : nat_lt k n ≡ false = grind (arith, nat_tests) in
    let eq : k == n ≡ false = grind (arith, nat_tests) in
    rw (low, eq) (ap (λ xs. n ∷ xs) (with_node-members (n + 1) i k marks (omega arith) (omega arith)))
with_node-members n (suc i) k (false ∷ marks) e h = with_node-members (n + 1) i k marks (omega arith) (omega arith)

-- the marks come back from the members
marks_from : (f : ℕ → Bool) (n : ℕ) (marks : List Bool) → ((i : ℕ) → f (n + i) ≡ get_or marks i false) → map f (range_with_len n (length marks)) ≡ marks
marks_from f n [] h = refl
marks_from f n (mark ∷ marks) h =
    let here : f n ≡ mark = subst (λ k. f k ≡ mark) (omega arith) (h 0) in
    let there : map f (range_with_len (n + 1) (length marks)) ≡ marks =
    marks_from f (n + 1) marks (λ i. subst (λ k. f k ≡ get_or marks i false) (omega arith) (h (suc i))) in
    rw (here, there) refl

pub marks_of-members : (marks : List Bool) → length marks ≡ MAX_NODES → marks_of (members_from 1 marks) ≡ marks
unfolding marks_of
marks_of-members marks e =
    subst (λ n. map (has_node (members_from 1 marks)) (range_with_len 1 n) ≡ marks) e
    (marks_from (has_node (members_from 1 marks)) 1 marks (λ i. has_node-members 1 i (1 + i) marks refl))

pub length-marks_of : (set : List ℕ) → length (marks_of set) ≡ MAX_NODES
unfolding marks_of
length-marks_of set = length-map-range_with_len (has_node set) 1 MAX_NODES

-- the members stand in order, and are nodes
pub record Within (low high n : ℕ) : Type 0 where
  pub above : low ≤ n
  pub below : n < high

within-wider : (low wide high n : ℕ) → wide ≤ low → Within low high n → Within wide high n
within-wider low wide high n h w = record { above = omega (arith, w.above); below = w.below }

members-within : (n high : ℕ) (marks : List Bool) → n + length marks ≤ high → All (Within n high) (members_from n marks)
members-within n high [] h = All-nil (Within n high)
members-within n high (true ∷ marks) h =
    All-cons (Within n high) n (members_from (n + 1) marks) (record { above = omega arith; below = omega arith })
    (All-weaker (Within (n + 1) high) (Within n high) (λ m. within-wider (n + 1) n high m (omega arith)) (members_from (n + 1) marks) (members-within (n + 1) high marks (omega arith)))
members-within n high (false ∷ marks) h =
    All-weaker (Within (n + 1) high) (Within n high) (λ m. within-wider (n + 1) n high m (omega arith)) (members_from (n + 1) marks) (members-within (n + 1) high marks (omega arith))

increasing-cons : (n high : ℕ) (xs : List ℕ) → All (Within (n + 1) high) xs → IsStrictlyIncreasing xs → IsStrictlyIncreasing (n ∷ xs)
increasing-cons n high xs w h zero lt = let r = w 0 0 (omega arith) in omega (arith, r.above)
increasing-cons n high xs w h (suc k) lt =
    let e : suc k + 1 ≡ suc (k + 1) = omega arith in
    rw e (h k (omega arith))

members-increase : (n : ℕ) (marks : List Bool) → IsStrictlyIncreasing (members_from n marks)
members-increase n [] = λ k h. absurd (omega arith)
members-increase n (true ∷ marks) =
    increasing-cons n (n + 1 + length marks) (members_from (n + 1) marks) (members-within (n + 1) (n + 1 + length marks) marks (omega arith)) (members-increase (n + 1) marks)
members-increase n (false ∷ marks) = members-increase (n + 1) marks

-- what holds of the room of a set
length-room : (room : List Bool) → marks_of (members_from 1 room) ≡ room → length room ≡ MAX_NODES
length-room room whole = subst (λ xs. length xs ≡ MAX_NODES) whole (length-marks_of (members_from 1 room))

pub IsNodeSet-members : (room : List Bool) → marks_of (members_from 1 room) ≡ room → IsNodeSet (members_from 1 room)
IsNodeSet-members room whole =
    let size = length-room room whole in
    record {
      ascending = members-increase 1 room;
      each =
          All-weaker (Within 1 17) IsNode (λ m w. (omega (arith, w.above), omega (arith, w.below)))
          (members_from 1 room) (members-within 1 17 room (omega arith));
    }

pub marks_of-marked : (room : List Bool) (i : ℕ) → marks_of (members_from 1 room) ≡ room → marks_of (members_from 1 (set room i true)) ≡ set room i true
marks_of-marked room i whole = marks_of-members (set room i true) (omega (arith, length-set room i true, length-room room whole))

pub has_node-room : (room : List Bool) (n : ℕ) → 1 ≤ n → get_or room (n - 1) false ≡ has_node (members_from 1 room) n
has_node-room room n h = sym (has_node-members 1 (n - 1) n room (omega arith))

pub with_node-room : (room : List Bool) (n : ℕ) → 1 ≤ n → n ≤ MAX_NODES → marks_of (members_from 1 room) ≡ room →
    members_from 1 (set room (n - 1) true) ≡ with_node (members_from 1 room) n
with_node-room room n low high whole = sym (with_node-members 1 (n - 1) n room (omega arith) (omega (arith, length-room room whole)))

pub get_or-marks_of : (set : List ℕ) (i : ℕ) → i < MAX_NODES → get_or (marks_of set) i false ≡ has_node set (i + 1)
unfolding marks_of
get_or-marks_of set i h = get_or-map-range_with_len (has_node set) 1 MAX_NODES i (i + 1) false h (omega arith)
