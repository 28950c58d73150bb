use Rattle.node_threads.proofs.Sorting.{Sorting}
use Rattle.node_threads.proofs.session_lists.in_order.Given as goal

-- the ends of the clients that were asked for are in order, and the others are left
abbrev pub invariant-loop-place : goal.invariant-loop-place
invariant-loop-place g l = Sorting (λ e. e.client) l.fn.ends.items l.place l.fn.clients l.ordered.items l.left.items
