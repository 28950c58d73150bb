use Rattle.std.proofs.Common.{◌∙◌}
use Rattle.std.proofs.lemmas.Result.{err_from_is_err_and}
use Rattle.client_loop.proofs.TalkFacts.{talks_on}
use Rattle.client_loop.proofs.releasing.release.Goals as goal

pub returns-in_err-take_post-clause-waits : goal.returns-in_err-take_post-clause-waits
returns-in_err-take_post-clause-waits g c =
    let p = err_from_is_err_and c.from_residual-in_err-take_post.result c.from_residual-in_err-take_post.ensures.1 in
    let first = c.loop.invariant.keeps in
    let then = c.in_err-take_post.ensures.waits in
    rw (p.1, p.2) (record {
      talks = talks_on _ _ _ _ _ _ _ _ _ _ c.loop.invariant.talks then.talks;
      keeps = record { phase = then.keeps.phase ∙ first.phase; ticket = then.keeps.ticket ∙ first.ticket; most = then.keeps.most ∙ first.most; busy = λ was. then.keeps.busy (first.busy was) };
      ended = then.ended;
    })
