use Rattle.client_loop.proofs.BeginFacts.{placed_in}
use Rattle.client_loop.proofs.TalkFacts.{talks_as}
use Rattle.client_loop.proofs.asking.ask.Goals as goal

pub can_suffice-requires : goal.can_suffice-requires
can_suffice-requires g c =
    placed_in c.args.wish.now.place (g.R.Recorder.own_log c.args.recorder.now) (g.R.Recorder.own_log c.loop.recorder) _ c.loop.progress.core c.loop.invariant.talks.quiet.visits c.loop.invariant.talks.stands c.requires.placed

pub returns-then-not-can_suffice-clause-talks : goal.returns-then-not-can_suffice-clause-talks
returns-then-not-can_suffice-clause-talks g c = talks_as _ _ _ _ _ _ _ _ c.loop.invariant.talks c.loop.invariant.talks.stands
