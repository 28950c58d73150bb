use Rattle.std.proofs.Common.{◌≡◌, take}
use Rattle.std.specs.List.{flat_map}
use Rattle.service_status.specs.Claims.{claims_of_node}
use Rattle.service_status.proofs.claims.listed.Given as goal

-- the claims of the nodes before this one were added
abbrev pub invariant-loop-seen : goal.invariant-loop-seen
invariant-loop-seen l = l.claims.items ≡ flat_map claims_of_node (take l.seen-index l.nodes)
