use Rattle.std.proofs.lemmas.Result.{IfErr-weaker}
use Rattle.actor_steps.proofs.EndFacts.{ends_on, ended_since}
use Rattle.node_loop.proofs.TurnFacts.{goes_after, has_run}
use Rattle.node_loop.proofs.UnsentFacts.{told_far}
use Rattle.node_loop.proofs.running.live.Goals as goal

pub returns-clause-faulted : goal.returns-clause-faulted
returns-clause-faulted g c = IfErr-weaker c.serve.result _ _ (λ f ends. told_far f _ _ _ _ c.rise.ensures.silent ends.sent) c.serve.ensures.turns.ended

pub returns-in_err-core-clause-run : goal.returns-in_err-core-clause-run
returns-in_err-core-clause-run g c = has_run _ _ _ _ _ _ c.requires.1.unused c.rise.ensures.goes

pub returns-clause-run : goal.returns-clause-run
returns-clause-run g c = has_run _ _ _ _ _ _ c.requires.1.unused (goes_after _ _ _ _ _ _ _ _ _ c.rise.ensures.goes c.serve.ensures.turns.goes)

pub returns-clause-ended : goal.returns-clause-ended
returns-clause-ended g c =
    IfErr-weaker c.serve.result _ _
    (λ f ends. ended_since f (g.R.Recorder.own_log c.args.recorder.now) _ _ _ _ _ _ c.requires.1.unused (ends_on f _ _ _ _ _ _ _ _ c.rise.ensures.goes.falls ends.cause))
    c.serve.ensures.turns.ended
