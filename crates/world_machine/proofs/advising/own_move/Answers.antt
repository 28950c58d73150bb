use Rattle.std.proofs.Common.{◌≡◌, Some, sym, ◌∙◌, ap, subst, arith}
use Rattle.vote_weights.specs.Sets.{has_node}
use Rattle.world_model.specs.ExactWorlds.{numbered}
use Rattle.world_model.specs.Numbered.{numbered-at}
use Rattle.world_machine.specs.Advising.{own_if}
use Rattle.world_machine.proofs.advising.own_move.Goals as goal

pub returns : goal.returns
returns g c =
    let ks = c.args.clients.now in
    let k = c.index-clients-index.result in
    let at : numbered ks c.get.result ≡ Some k = numbered-at ks c.get.result k (omega (arith, c.get.ensures.in_range)) (omega arith) c.index-clients-index.is in
    c.own_at.ensures ∙ sym (ap (own_if (has_node c.args.chosen) c.args.want.now c.args.sent.now c.args.nodes.now) (subst (λ i. numbered ks i ≡ Some k) c.get.ensures.number at))
