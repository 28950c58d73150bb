use Rattle.std.proofs.Common.{◌≡◌, ◌++◌, take}
use Rattle.std.specs.List.{flat_map}
use Rattle.service_status.specs.Claims.{claims_of_entry}
use Rattle.service_status.proofs.claims.push_entries.Given as goal

-- the claims of the entries before the place were added
abbrev pub invariant-loop-place : goal.invariant-loop-place
invariant-loop-place l = l.claims.items ≡ l.fn.claims.items ++ flat_map (claims_of_entry l.node) (take l.place l.entries)
