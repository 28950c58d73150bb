use Rattle.client_core.proofs.clients.ClientCore.may_enter.Goals as goal

pub returns-in-Some : goal.returns-in-Some
returns-in-Some c =
    let found = c.in-Some.ensures in
    let enough = rw found.1 at c.enough.ensures.enough in
    rw (← c.self.view_is, c.in-Asking.is) enough
