use Rattle.std.proofs.Common.{rules}
use Rattle.std.proofs.lemmas.Result.{IfErr-weaker}
use Rattle.actor_steps.proofs.EndFacts.{failures_on, failed_since}
use Rattle.client_loop.proofs.BeginFacts.{none_begun, begun_since, placed_since}
use Rattle.client_loop.proofs.EndFacts.{client_ends_on, client_ended_since}
use Rattle.client_loop.proofs.clients.run_client_over.Goals as goal

pub returns-in-Err-clause-falls : goal.returns-in-Err-clause-falls
returns-in-Err-clause-falls g c =
    failed_since (g.R.Recorder.own_log c.args.recorder.now) (g.R.Recorder.own_log c.rise.new.recorder) _ _ _ c.requires.unused c.rise.ensures.begins.falls

pub returns-clause-falls : goal.returns-clause-falls
returns-clause-falls g c =
    failed_since (g.R.Recorder.own_log c.args.recorder.now) (g.R.Recorder.own_log c.fulfil_all.new.recorder) _ _ _ c.requires.unused
    (failures_on _ _ _ _ _ _ c.rise.ensures.begins.falls c.fulfil_all.ensures.agrees.falls)

pub returns-clause-ended : goal.returns-clause-ended
returns-clause-ended g c =
    IfErr-weaker c.fulfil_all.result _ _
    (λ p ends. client_ended_since p.1 (g.R.Recorder.own_log c.args.recorder.now) _ _ _ _ _ _ c.requires.unused (client_ends_on p.1 _ _ _ _ _ _ _ _ c.rise.ensures.begins.falls ends))
    c.fulfil_all.ensures.ended

pub returns-in-Err-clause-fulfils : goal.returns-in-Err-clause-fulfils
returns-in-Err-clause-fulfils g c = record { entered = search rules; softened = search rules; begun = none_begun _ _ (g.R.Recorder.own_log c.rise.new.recorder) c.rise.ensures.begins.whose c.rise.ensures.begins.begins }

pub returns-clause-fulfils : goal.returns-clause-fulfils
returns-clause-fulfils g c = record { entered = search rules; softened = search rules; begun = begun_since _ _ (g.R.Recorder.own_log c.rise.new.recorder) _ c.rise.ensures.begins.whose c.fulfil_all.ensures.fulfils.begun }

pub fulfil_all-requires-clause-placed : goal.fulfil_all-requires-clause-placed
fulfil_all-requires-clause-placed g c =
    placed_since c.args.ballots (g.R.Recorder.own_log c.args.recorder.now) (g.R.Recorder.own_log c.rise.new.recorder) c.args.wishes.now c.rise.ensures.begins.ballots c.requires.ballots c.requires.placed
