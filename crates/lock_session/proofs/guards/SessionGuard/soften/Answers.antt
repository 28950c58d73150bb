use Rattle.std.proofs.Common.{◌∙◌, sym}
use Rattle.std.proofs.lemmas.Result.{on_ok_weaker}
use Rattle.client_core.specs.Clients.{softened_ticket}
use Rattle.lock_session.proofs.InsideFacts.{held_by, inside_one, still_one}
use Rattle.lock_session.proofs.guards.SessionGuard.soften.Goals as goal

pub returns-in-Some-clause-held : goal.returns-in-Some-clause-held
returns-in-Some-clause-held g c h =
    let still = c.soften-told.ensures.still c.args.self.now.ticket h in
    held_by c.args.self.now.ticket c.in-Some.ticket c.soften-told.new.self still (sym (c.ticket.ensures.inside still.inside.inside) ∙ c.in-Some.is)

pub returns-in-Some-clause-softened : goal.returns-in-Some-clause-softened
returns-in-Some-clause-softened g c =
    on_ok_weaker c.soften-told.result
    (λ d h. let both = d c.args.self.now.ticket h c.requires.writes in (inside_one _ c.in-Some.ticket c.soften-told.new.self both.0 (sym (c.ticket.ensures.inside both.0.inside) ∙ c.in-Some.is), both.1)) c.soften-told.ensures.softened

pub returns-in_default-clause-held : goal.returns-in_default-clause-held
returns-in_default-clause-held g c h =
    let still = c.soften-told.ensures.still c.args.self.now.ticket h in
    absurd (c.in_default.not-Some still.ticket (c.ticket.ensures.inside still.inside.inside ∙ still.inside.ticket))

pub returns-in_default-clause-softened : goal.returns-in_default-clause-softened
returns-in_default-clause-softened g c =
    on_ok_weaker c.soften-told.result
    (λ d h. let both = d c.args.self.now.ticket h c.requires.writes in absurd (c.in_default.not-Some (softened_ticket c.args.self.now.ticket) (c.ticket.ensures.inside both.0.inside ∙ both.0.ticket)))
    c.soften-told.ensures.softened

pub returns-in-Some-clause-still : goal.returns-in-Some-clause-still
returns-in-Some-clause-still g c h =
    let still = c.soften-told.ensures.still c.args.self.now.ticket h in
    still_one c.args.self.now.ticket c.in-Some.ticket c.soften-told.new.self still (sym (c.ticket.ensures.inside still.inside.inside) ∙ c.in-Some.is)

pub returns-in_default-clause-still : goal.returns-in_default-clause-still
returns-in_default-clause-still g c h =
    let still = c.soften-told.ensures.still c.args.self.now.ticket h in
    absurd (c.in_default.not-Some still.ticket (c.ticket.ensures.inside still.inside.inside ∙ still.inside.ticket))
