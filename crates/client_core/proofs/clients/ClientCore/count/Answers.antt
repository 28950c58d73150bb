use Rattle.client_core.proofs.ClientFacts.{counts-lawful}
use Rattle.client_core.proofs.clients.ClientCore.count.Goals as goal

pub invariant_of-self : goal.invariant_of-self
invariant_of-self c =
    let node = rw (← c.self.view_is) at c.requires in
    rw c.counts-self-inside.ensures.exact
    (record {
      numbered = c.self.invariant.numbered;
      state = counts-lawful c.self.inside.client c.self.inside.ballots c.self.inside.attempt c.self.inside.state c.args.node node c.counts-self-inside.ensures.adds c.self.invariant.state;
    })
