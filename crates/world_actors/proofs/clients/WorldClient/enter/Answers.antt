use Rattle.std.proofs.Common.{sym}
use Rattle.world_actors.proofs.ClientFacts.{refuses, enters}
use Rattle.world_actors.proofs.clients.WorldClient.enter.Goals as goal

pub returns-then-not-may_enter-clause-refused : goal.returns-then-not-may_enter-clause-refused
returns-then-not-may_enter-clause-refused c =
    refuses c.self.inside.core c.self.inside.kept c.self.inside.tried c.self.inside.up _ c.self.view_is c.if-not-self.false (sym c.in-Asking.ensures.phase)
    (λ may. let q = c.may_enter.ensures.1 may in cc)

pub returns-clause-done : goal.returns-clause-done
returns-clause-done c =
    let may = c.may_enter.ensures.0 c.if-not-may_enter.false in
    enters c.self.inside.core c.enter.new.self c.self.inside.kept c.self.inside.tried c.self.inside.up _ c.self.view_is c.if-not-self.false may c.enter.ensures.exact
