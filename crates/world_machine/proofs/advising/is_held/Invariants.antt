use Rattle.std.proofs.Common.{◌≡◌, drop}
use Rattle.std.specs.List.{list_any}
use Rattle.world_machine.specs.Advising.{is_held_by}
use Rattle.world_machine.proofs.advising.is_held.Given as goal

abbrev pub invariant-loop-client : goal.invariant-loop-client
invariant-loop-client g l = list_any (is_held_by l.want l.node) (drop l.client-index l.clients) ≡ list_any (is_held_by l.want l.node) l.clients
