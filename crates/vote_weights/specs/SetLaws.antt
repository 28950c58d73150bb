-- What follows of sets of nodes. Nothing here has to be believed: each line is proved.
use Rattle.std.proofs.Common.{◌≡◌, ℕ, ◌==◌, Bool, true, false, ◌||◌, List, [], ◌∷◌, nat_lt, refl, arith, if◌then◌else◌}
use Rattle.std.proofs.lemmas.Bool.Decides.{nat_tests}
use Rattle.vote_weights.specs.Sets.{has_node, with_node}

or_twice : (a c : Bool) → a || c ≡ a || (a || c)
or_twice true c = refl
or_twice false c = refl

or_swap : (a b c : Bool) → a || (b || c) ≡ b || (a || c)
or_swap true true c = refl
or_swap true false c = refl
or_swap false true c = refl
or_swap false false c = refl

has_node_step : (a b : Bool) (m n k : ℕ) (set tail : List ℕ) → (n == m) ≡ b → has_node tail k ≡ (n == k) || has_node set k →
    has_node (if a then n ∷ m ∷ set else (if b then m ∷ set else m ∷ tail)) k ≡ (n == k) || ((m == k) || has_node set k)
has_node_step true b m n k set tail e h = refl
has_node_step false true m n k set tail e h =
    let same : n ≡ m = grind (arith, nat_tests) in
    rw same (or_twice (m == k) (has_node set k))
has_node_step false false m n k set tail e h = rw h (or_swap (m == k) (n == k) (has_node set k))

-- the node is in the set with it, and the others are as they were
pub has_node-with_node : (set : List ℕ) (n k : ℕ) → has_node (with_node set n) k ≡ (n == k) || has_node set k
has_node-with_node [] n k = refl
has_node-with_node (m ∷ set) n k = has_node_step (nat_lt n m) (n == m) m n k set (with_node set n) refl (has_node-with_node set n k)
