use Rattle.std.proofs.Common.{◌<◌, ◌++◌, length, ◌∙◌, ap, arith}
use Rattle.std.specs.Option.{option_to_list}
use Rattle.world_model.specs.Views.{live_ticket}
use Rattle.world_machine.specs.Listing.{listed_by}
use Rattle.world_machine.proofs.ListingFacts.{flat_map-more}
use Rattle.world_machine.proofs.listing.listed_tickets.Goals as goal

pub loop-place-preserved : goal.loop-place-preserved
loop-place-preserved c =
    let found = option_to_list c.ticket_at.result in
    let within : c.loop-place.place < length c.args.kept.now.entries = omega (arith, c.loop-place-test.true, c.len-place-end.ensures.len) in
    c.in_ok-put.ensures ∙ ap (λ ts. ts ++ found) c.loop-place.invariant
    ∙ flat_map-more (λ e. live_ticket (listed_by c.args.claims c.args.resource.now) e.client e.live) c.args.kept.now.entries c.loop-place.place found within c.ticket_at.ensures
