use Rattle.client_core.proofs.ClientFacts.{granted-counts}
use Rattle.client_core.proofs.clients.ClientCore.hear.Goals as goal

pub returns-in-Counted-clause-granted : goal.returns-in-Counted-clause-granted
returns-in-Counted-clause-granted c = λ n.
    let old = c.args.self.now in
    let hears = rw c.in-Counted.is at c.heard-heard.ensures.allowed in
    let adds = rw c.node.ensures at c.count.ensures.adds in
    rw (c.count.ensures.exact, c.node.ensures, c.in-Counted.is)
    (granted-counts old.ballots old.client old.attempt old.state c.args.message.now _ n hears adds)
