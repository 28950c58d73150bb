use Rattle.service_status.specs.Sights.{AreNodes}
use Rattle.service_status.proofs.looking.see_nodes.Given as goal

-- the nodes before the place were looked at
abbrev pub invariant-loop-place : goal.invariant-loop-place
invariant-loop-place g l = AreNodes l.place l.nodes.items
