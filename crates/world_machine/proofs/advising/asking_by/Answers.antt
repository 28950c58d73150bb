use Rattle.std.proofs.Common.{◌≡◌, Some, sym, ◌∙◌, ap, subst, arith}
use Rattle.world_model.specs.ExactWorlds.{numbered}
use Rattle.world_model.specs.Numbered.{numbered-at}
use Rattle.world_machine.specs.Advising.{asking_if}
use Rattle.world_machine.proofs.advising.asking_by.Goals as goal

pub returns : goal.returns
returns c =
    let ks = c.args.clients.now in
    let k = c.index-clients-index.result in
    let at : numbered ks c.get.result ≡ Some k = numbered-at ks c.get.result k (omega (arith, c.get.ensures.in_range)) (omega arith) c.index-clients-index.is in
    c.asking.ensures ∙ sym (ap asking_if (subst (λ i. numbered ks i ≡ Some k) c.get.ensures.number at))
