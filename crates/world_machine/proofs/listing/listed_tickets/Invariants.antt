use Rattle.std.proofs.Common.{◌≡◌, take}
use Rattle.world_model.specs.Views.{live_tickets}
use Rattle.world_machine.specs.Listing.{listed_by}
use Rattle.world_machine.proofs.listing.listed_tickets.Given as goal

abbrev pub invariant-loop-place : goal.invariant-loop-place
invariant-loop-place l = l.tickets.items ≡ live_tickets (listed_by l.claims l.resource) (take l.place l.kept.entries)
