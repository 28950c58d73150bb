use Rattle.std.proofs.Common.{◌≡◌, Some, sym, ◌∙◌, ap, subst, arith}
use Rattle.world_model.specs.ExactWorlds.{numbered}
use Rattle.world_model.specs.Views.{ticket_at}
use Rattle.world_model.specs.Numbered.{numbered-at}
use Rattle.world_machine.proofs.ListingFacts.{client-at}
use Rattle.world_machine.proofs.listing.ticket_inside.Goals as goal

pub returns : goal.returns
returns c w is =
    let cs = c.args.clients.now in
    let k = c.index-clients-index.result in
    let at : numbered cs c.get.result ≡ Some k = numbered-at cs c.get.result k (omega (arith, c.get.ensures.in_range)) (omega arith) c.index-clients-index.is in
    c.inside.ensures ∙ sym (ap ticket_at (client-at w cs c.args.id k is (subst (λ i. numbered cs i ≡ Some k) c.get.ensures.number at)))
