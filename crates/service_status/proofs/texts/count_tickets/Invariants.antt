use Rattle.std.proofs.Common.{◌≡◌, ◌≤◌, take}
use Rattle.std.specs.List.{count_by}
use Rattle.service_status.specs.Texts.{has_ticket}
use Rattle.service_status.proofs.texts.count_tickets.Given as goal

-- the entries before the place were counted
abbrev pub invariant-loop-place : goal.invariant-loop-place
invariant-loop-place l = (l.count ≡ count_by (has_ticket l.waits) (take l.place l.entries)) × (l.count ≤ l.place)
