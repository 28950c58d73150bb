use Rattle.std.proofs.Common.{◌≡◌, ◌≤◌, take}
use Rattle.std.specs.List.{count_by}
use Rattle.service_status.specs.Texts.{is_in}
use Rattle.service_status.proofs.texts.count_clients.Given as goal

-- the clients before this one were counted
abbrev pub invariant-loop-seen : goal.invariant-loop-seen
invariant-loop-seen l = (l.count ≡ count_by (is_in l.group) (take l.seen-index l.clients)) × (l.count ≤ l.seen-index)
