use Rattle.std.proofs.Common.{◌≡◌, length, map, take}
use Rattle.world_model.specs.Openings.{down_client}
use Rattle.world_machine.specs.Machines.{client_part, AreClients}
use Rattle.world_machine.proofs.opening.clients_of.Given as goal

abbrev pub invariant-loop-place : goal.invariant-loop-place
invariant-loop-place l = record {
  parts : map client_part l.clients.items ≡ map down_client (take l.place l.attempts);
  order : AreClients l.ballots l.clients.items;
  count : length l.clients.items ≡ l.place;
}
