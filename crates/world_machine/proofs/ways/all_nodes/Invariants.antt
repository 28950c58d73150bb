use Rattle.std.proofs.Common.{◌≡◌, ℕ}
use Rattle.vote_weights.specs.Sets.{has_node}
use Rattle.world_machine.specs.Going.{is_one_of}
use Rattle.world_machine.proofs.ways.all_nodes.Given as goal

-- those so far are in it
abbrev pub invariant-loop-place : goal.invariant-loop-place
invariant-loop-place l = (n : ℕ) → has_node l.set n ≡ is_one_of l.place n
