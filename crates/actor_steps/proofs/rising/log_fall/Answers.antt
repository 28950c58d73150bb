use Rattle.actor_steps.proofs.StepFacts.{fallen}
use Rattle.actor_steps.proofs.rising.log_fall.Goals as goal

pub returns-clause-fallen : goal.returns-clause-fallen
returns-clause-fallen g c =
    fallen (g.R.Recorder.own_log c.args.recorder.now) (g.R.Recorder.own_log c.log_own.new.recorder) c.args.actor c.in_ok-log_own.field-0 c.args.tried.now _
    c.requires.actor c.requires.allowed c.requires.tries c.requires.found c.in_ok-log_own.ensures.logged
