use Rattle.std.proofs.Common.{◌↔◌, IsTrue, IfOk, subst, sym, ap, ◌∙◌}
use Rattle.lock_model.specs.ExactDecisions.{Changes}
use Rattle.voter_core.specs.Voters.{note_of}
use Rattle.std.proofs.lemmas.Result.{on_ok_weaker}
use Rattle.voter_core.proofs.deciding.decide.Goals as goal

pub returns-in-Request-clause-changed : goal.returns-in-Request-clause-changed
returns-in-Request-clause-changed g c =
    subst (λ m. IfOk c.request.result (λ b. IsTrue b ↔ Changes c.args.problem c.args.entries.now m)) (sym c.in-Request.is) c.request.ensures.changed

pub returns-in-Release-clause-changed : goal.returns-in-Release-clause-changed
returns-in-Release-clause-changed g c =
    subst (λ m. IfOk c.release.result (λ b. IsTrue b ↔ Changes c.args.problem c.args.entries.now m)) (sym c.in-Release.is) c.release.ensures.changed

pub returns-in-Request-clause-untold : goal.returns-in-Request-clause-untold
returns-in-Request-clause-untold g c =
    on_ok_weaker c.request.result (λ f h. f (ap (note_of c.args.problem c.args.entries.now) (sym c.in-Request.is) ∙ h)) c.request.ensures.untold

pub returns-in-Request-clause-told_first : goal.returns-in-Request-clause-told_first
returns-in-Request-clause-told_first g c =
    on_ok_weaker c.request.result (λ f here b h. f here b (ap (note_of c.args.problem c.args.entries.now) (sym c.in-Request.is) ∙ h)) c.request.ensures.told_first

pub returns-in-Request-clause-told_second : goal.returns-in-Request-clause-told_second
returns-in-Request-clause-told_second g c =
    on_ok_weaker c.request.result (λ f here b h. f here b (ap (note_of c.args.problem c.args.entries.now) (sym c.in-Request.is) ∙ h)) c.request.ensures.told_second
