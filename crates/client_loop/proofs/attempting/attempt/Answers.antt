use Rattle.std.proofs.Common.{rules}
use Rattle.actor_steps.proofs.EndFacts.{failures_on}
use Rattle.client_loop.specs.Visits.{use_of}
use Rattle.client_loop.proofs.AttemptFacts.{silently_on, silently_then, agrees_on}
use Rattle.client_loop.proofs.BeginFacts.{placed_on, more_between}
use Rattle.client_loop.proofs.EndFacts.{failures_same}
use Rattle.client_loop.proofs.attempting.attempt.Goals as goal

pub begin-requires-clause-placed : goal.begin-requires-clause-placed
begin-requires-clause-placed g c =
    placed_on (use_of c.args.wish.now) c.args.wish.now.place (g.R.Recorder.own_log c.args.recorder.now) (g.R.Recorder.own_log c.loop.recorder) c.loop.invariant.silent.begins c.requires.placed

pub returns-then-branch-clause-asks : goal.returns-then-branch-clause-asks
returns-then-branch-clause-asks g c = record {
  asks = search rules;
  begun = record {
    begun = search rules;
    more = more_between _ _ _ _ _ c.loop.invariant.silent.begins c.in_ok-begin.ensures.chooses.begun.more c.keep_chosen.ensures.goes_on.silent.visits;
    ticket = search rules;
  };
}

pub returns-in_err-keep_chosen-clause-goes_on : goal.returns-in_err-keep_chosen-clause-goes_on
returns-in_err-keep_chosen-clause-goes_on g c = record {
  silent = silently_then _ _ _ _ (silently_on _ _ _ _ c.loop.invariant.silent c.begin.ensures.goes_on.silent) c.keep_chosen.ensures.goes_on.silent;
  agrees = agrees_on _ _ _ _ _ _ _ (failures_on _ _ _ _ _ _ c.loop.invariant.falls (failures_same _ _ _ c.begin.ensures.goes_on.up.falls)) c.keep_chosen.ensures.goes_on.agrees;
}

pub returns-then-branch-clause-goes_on : goal.returns-then-branch-clause-goes_on
returns-then-branch-clause-goes_on g c = record {
  silent = silently_then _ _ _ _ (silently_on _ _ _ _ c.loop.invariant.silent c.begin.ensures.goes_on.silent) c.keep_chosen.ensures.goes_on.silent;
  agrees = agrees_on _ _ _ _ _ _ _ (failures_on _ _ _ _ _ _ c.loop.invariant.falls (failures_same _ _ _ c.begin.ensures.goes_on.up.falls)) c.keep_chosen.ensures.goes_on.agrees;
}

pub loop-preserved : goal.loop-preserved
loop-preserved g c = record {
  next = search rules;
  finite = search rules;
  rests = search rules;
  silent = silently_then _ _ _ _ (silently_on _ _ _ _ c.loop.invariant.silent c.begin.ensures.goes_on.silent) c.keep_chosen.ensures.goes_on.silent;
  most = search rules;
  falls = failures_on _ _ _ _ _ _ c.loop.invariant.falls (failures_on _ _ _ _ _ _ (failures_same _ _ _ c.begin.ensures.goes_on.up.falls) c.keep_chosen.ensures.goes_on.agrees.falls);
}
