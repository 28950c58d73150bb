use Rattle.std.proofs.Common.{rules, arith, ◌∙◌}
use Rattle.std.proofs.lemmas.Grind.{common_steps}
use Rattle.actor_steps.proofs.EndFacts.{failures_on}
use Rattle.client_loop.proofs.BeginFacts.{wish_begun, same_ballots, wish_placed}
use Rattle.actor_steps.proofs.SendingFacts.{follows_on}
use Rattle.client_loop.proofs.SoftenedFacts.{wish_softened, wish_half_softened}
use Rattle.client_loop.proofs.clients.fulfil_all.Goals as goal

pub loop-wish-preserved : goal.loop-wish-preserved
loop-wish-preserved g c = record {
  stands = c.in_default.ensures.fulfilled.rests.stands;
  free = c.in_default.ensures.fulfilled.rests.free;
  idle = c.in_default.ensures.fulfilled.rests.idle;
  entered = let added = c.in_default.ensures.fulfilled.entered in let before = c.loop-wish.invariant.entered in let count = c.loop-wish.invariant.count in let at = c.wish-item.is in grind (arith, common_steps);
  softened = wish_softened _ _ _ _ c.wish-item.result _ (g.R.Recorder.own_log c.loop-wish.recorder) (g.R.Recorder.own_log c.fulfil-fulfilled.new.recorder) c.loop-wish-test.true c.wish-item.is c.loop-wish.invariant.count c.in_default.ensures.fulfilled.entered c.loop-wish.invariant.softened;
  count = search rules;
  sent = follows_on _ _ _ _ _ _ c.loop-wish.invariant.sent c.in_default.ensures.sent.all;
  falls = failures_on _ _ _ _ _ _ c.loop-wish.invariant.falls c.fulfil-fulfilled.ensures.agrees.falls;
  ballots = same_ballots (g.R.Recorder.own_log c.loop-wish.recorder) (g.R.Recorder.own_log c.fulfil-fulfilled.new.recorder) c.fulfil-fulfilled.ensures.works.begins.ballots ∙ c.loop-wish.invariant.ballots;
  begun = wish_begun _ _ _ c.wish-item.result _ _ _ c.loop-wish-test.true c.wish-item.is c.fulfil-fulfilled.ensures.works.begins c.loop-wish.invariant.begun;
}

pub returns-in-Err-clause-fulfils : goal.returns-in-Err-clause-fulfils
returns-in-Err-clause-fulfils g c = record {
  entered = let counted = c.fulfil-fulfilled.ensures.works.counted in let before = c.loop-wish.invariant.entered in let count = c.loop-wish.invariant.count in let at = c.wish-item.is in grind (arith, common_steps);
  softened = wish_half_softened _ _ _ _ c.wish-item.result _ (g.R.Recorder.own_log c.loop-wish.recorder) (g.R.Recorder.own_log c.fulfil-fulfilled.new.recorder) c.loop-wish-test.true c.wish-item.is c.loop-wish.invariant.count c.fulfil-fulfilled.ensures.works.counted c.loop-wish.invariant.softened;
  begun = wish_begun _ _ _ c.wish-item.result _ _ _ c.loop-wish-test.true c.wish-item.is c.fulfil-fulfilled.ensures.works.begins c.loop-wish.invariant.begun;
}

pub fulfil-fulfilled-requires-clause-placed : goal.fulfil-fulfilled-requires-clause-placed
fulfil-fulfilled-requires-clause-placed g c =
    wish_placed (g.R.Recorder.own_log c.args.recorder.now).ballots (g.R.Recorder.own_log c.loop-wish.recorder).ballots _ _ c.wish-item.result _ c.loop-wish-test.true c.wish-item.is c.requires.placed c.loop-wish.invariant.ballots
