use Rattle.service_status.specs.Claims.{claims_of_entry}
use Rattle.service_status.proofs.ListFacts.{pieces_more}
use Rattle.service_status.proofs.claims.push_entries.Goals as goal

pub loop-place-preserved : goal.loop-place-preserved
loop-place-preserved c =
    pieces_more (claims_of_entry c.args.node) c.args.entries.now c.loop-place.place c.in-Some.entry c.args.claims.now.items c.loop-place.claims.items c.push_entry.new.claims.items
    c.in-Some.ensures.found c.loop-place.invariant c.in_ok-push_entry.ensures
