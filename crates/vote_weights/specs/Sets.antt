-- Sets of nodes, each as the ascending list of its members.
use Rattle.std.specs.Prelude.{ℕ, ◌+◌, ◌==◌, Bool, List, [], ◌∷◌, All, map, nat_lt, if◌then◌else◌}
use Rattle.std.specs.List.{list_any, range_with_len}
use Rattle.std.specs.List.Sorted.{IsStrictlyIncreasing}
use Rattle.lock_messages.specs.Ids.{IsNode}
use Rattle.lock_messages.specs.declared.ids.TheConstants.{MAX_NODES}

-- whether the node is in the set
abbrev pub has_node : List ℕ → ℕ → Bool
has_node set n = list_any (λ m. m == n) set

-- the set with the node, which stands where the order has it
abbrev pub with_node : List ℕ → ℕ → List ℕ
with_node [] n = n ∷ []
with_node (m ∷ set) n =
    if nat_lt n m then n ∷ m ∷ set else (if n == m then m ∷ set else m ∷ with_node set n)

-- nodes, each once and in ascending order
pub record IsNodeSet (set : List ℕ) : Type 0 where
  pub ascending : IsStrictlyIncreasing set
  pub each : All IsNode set

-- the members, where a mark for each node from n on says whether it is one
abbrev pub members_from : ℕ → List Bool → List ℕ
members_from n [] = []
members_from n (mark ∷ marks) = if mark then n ∷ members_from (n + 1) marks else members_from (n + 1) marks

-- for each node whether it is in the set, node 1 first
unfoldable pub marks_of : List ℕ → List Bool
marks_of set = map (has_node set) (range_with_len 1 MAX_NODES)
