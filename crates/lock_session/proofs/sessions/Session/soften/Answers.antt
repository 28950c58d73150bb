use Rattle.std.proofs.Common.{rules, inr, sym, subst}
use Rattle.client_core.specs.Calls.{MaySoften}
use Rattle.client_loop.specs.Remembering.{core_of}
use Rattle.lock_session.specs.Sessions.{SessionValue, IsInside}
use Rattle.lock_session.proofs.InsideFacts.{kept_core, soften_still}
use Rattle.lock_session.proofs.sessions.Session.soften.Goals as goal

pub returns-in-Err-clause-still : goal.returns-in-Err-clause-still
returns-in-Err-clause-still g c t h =
    let may : MaySoften (core_of c.self.inside.progress) = search rules in
    let before = subst (λ (v : SessionValue). IsInside v t) (sym c.self.view_is) h in
    soften_still _ _ t before may c.if-self.false (kept_core _ _ c.in-Err.ensures.ended.core) c.soften-told.ensures.stays.stands

pub returns-in-Ok-clause-still : goal.returns-in-Ok-clause-still
returns-in-Ok-clause-still g c t h =
    let may : MaySoften (core_of c.self.inside.progress) = search rules in
    let before = subst (λ (v : SessionValue). IsInside v t) (sym c.self.view_is) h in
    soften_still _ _ t before may c.if-self.false (kept_core _ _ (inr c.in-Ok.ensures.softened.core)) c.soften-told.ensures.stays.stands
