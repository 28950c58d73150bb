use Rattle.service_status.specs.Sights.{AreClients}
use Rattle.service_status.proofs.looking.see_clients.Given as goal

-- the clients before the place were looked at
abbrev pub invariant-loop-place : goal.invariant-loop-place
invariant-loop-place g l = AreClients l.place l.clients.items
