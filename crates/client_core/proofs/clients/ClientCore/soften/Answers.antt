use Rattle.client_core.proofs.ClientFacts.{softens-lawful}
use Rattle.client_core.proofs.clients.ClientCore.soften.Goals as goal

pub invariant_of-self : goal.invariant_of-self
invariant_of-self c =
    let may = rw (← c.self.view_is) at c.requires in
    rw c.softens-self-inside.ensures
    (record {
      numbered = c.self.invariant.numbered;
      state = softens-lawful c.self.inside.client c.self.inside.ballots c.self.inside.attempt c.self.inside.state c.self.invariant.state may;
    })
