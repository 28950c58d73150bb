use Rattle.std.proofs.Common.{arith}
use Rattle.client_loop.proofs.SoftFacts.{tells_next}
use Rattle.client_loop.proofs.TalkFacts.{talks_on}
use Rattle.client_loop.proofs.softening.tell_granted.Goals as goal

pub loop-number-preserved : goal.loop-number-preserved
loop-number-preserved g c =
    let count = rw c.ballots.ensures at c.nodes-number-end.ensures.nodes in
    record {
      talks = talks_on _ _ _ _ _ _ _ _ _ _ c.loop-number.invariant.talks c.in_ok-tell_if_granted.ensures.says.talks;
      told = tells_next c.args.granted c.args.core.now _ _ (g.R.Recorder.own_log c.tell_if_granted.new.recorder) c.loop-number.number c.in-Some.node c.loop-number.auto.number (omega (arith, c.loop-number-test.true, count)) c.in-Some.ensures.1 c.requires.softened
          c.loop-number.invariant.told c.in_ok-tell_if_granted.ensures.told;
    }
