use Rattle.std.proofs.Common.{◌≡◌, take}
use Rattle.std.specs.List.{flat_map}
use Rattle.world_model.specs.Views.{ticket_in, ticket_for}
use Rattle.world_machine.proofs.listing.tickets_inside.Given as goal

abbrev pub invariant-loop-client : goal.invariant-loop-client
invariant-loop-client l = l.tickets.items ≡ flat_map (λ k. ticket_for l.resource (ticket_in k.part.phase)) (take l.client-index l.clients)
