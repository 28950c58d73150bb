use Rattle.std.proofs.Common.{◌≡◌, take}
use Rattle.world_machine.proofs.copying.clients_of.Given as goal

-- the copies so far are the first clients
abbrev pub invariant-loop-client : goal.invariant-loop-client
invariant-loop-client l = l.copies.items ≡ take l.client-index l.clients
