use Rattle.std.proofs.Common.{◌+◌, length, refl, sym, subst, arith}
use Rattle.std.proofs.lemmas.Option.{slice_get_read}
use Rattle.journal_merger.specs.Pendings.{Pending}
use Rattle.journal_merger.proofs.JudgeFacts.{Turned, SoFar, first-round, more-waits, more-ended, one-took, one-refused, all-idle, all-ended}
use Rattle.journal_merger.proofs.judging.judge_round.Goals.{in-Ended, in-Waits}
use Rattle.journal_merger.proofs.judging.judge_round.Goals as goal

pub loop-index-init : goal.loop-index-init
loop-index-init g c = λ w of. first-round w c.args.journals.now c.args.judge.now of

pub loop-index-preserved : goal.loop-index-preserved
loop-index-preserved g c = λ w of.
    let so = c.loop-index.invariant w of in
    let at = slice_get_read c.args.journals.now (length c.args.journals.now) c.loop-index.index c.index-journals-index.result refl c.loop-index-test.true c.index-journals-index.is in
    let turn : Turned w c.index-journals-index.result.who c.index-journals-index.result.next c.in-Ok.turn c.judge_next.new.judge =
    subst (λ (p : Pending). Turned w p.who p.next c.in-Ok.turn c.judge_next.new.judge) c.journal.view_is (c.in-Ok.ensures w so.of) in
    elim c.match-turn.branch [
      | in-Ended b ↦
          subst (λ t. SoFar w c.args.journals.now (c.loop-index.index + 1) t c.judge_next.new.judge) (sym b.waits-is)
          (more-ended w c.args.journals.now c.loop-index.index c.index-journals-index.result c.in-Ok.turn c.loop-index.waits c.loop-index.judge c.judge_next.new.judge so at b.in-Ended.is turn)
      | in-Waits b ↦
          subst (λ t. SoFar w c.args.journals.now (c.loop-index.index + 1) t c.judge_next.new.judge) (sym b.waits-is)
          (more-waits w c.args.journals.now c.loop-index.index c.index-journals-index.result c.in-Ok.turn c.loop-index.waits c.loop-index.judge c.judge_next.new.judge so at b.in-Waits.is turn)
    ]

pub returns-in-Took-clause-found : goal.returns-in-Took-clause-found
returns-in-Took-clause-found g c = λ w of.
    let so = c.loop-index.invariant w of in
    let at = slice_get_read c.args.journals.now (length c.args.journals.now) c.loop-index.index c.index-journals-index.result refl c.loop-index-test.true c.index-journals-index.is in
    one-took w c.args.journals.now c.loop-index.index c.index-journals-index.result c.in-Ok.turn c.in-Took.taken c.judge_next.new.judge at c.in-Took.is
    (subst (λ (p : Pending). Turned w p.who p.next c.in-Ok.turn c.judge_next.new.judge) c.journal.view_is (c.in-Ok.ensures w so.of))

pub returns-in-Took-clause-within : goal.returns-in-Took-clause-within
returns-in-Took-clause-within g c = c.loop-index-test.true

pub returns-in-Refused-clause-found : goal.returns-in-Refused-clause-found
returns-in-Refused-clause-found g c = λ w of.
    let so = c.loop-index.invariant w of in
    let at = slice_get_read c.args.journals.now (length c.args.journals.now) c.loop-index.index c.index-journals-index.result refl c.loop-index-test.true c.index-journals-index.is in
    one-refused w c.args.journals.now c.loop-index.index c.index-journals-index.result c.in-Ok.turn c.in-Refused.why c.judge_next.new.judge at c.in-Refused.is
    (subst (λ (p : Pending). Turned w p.who p.next c.in-Ok.turn c.judge_next.new.judge) c.journal.view_is (c.in-Ok.ensures w so.of))

pub returns-then-waits-clause-found : goal.returns-then-waits-clause-found
returns-then-waits-clause-found g c = λ w of. all-idle w c.args.journals.now c.loop-index.index c.loop-index.waits c.loop-index.judge c.loop-index.judge (c.loop-index.invariant w of) (omega (arith, c.loop-index-test.false)) c.if-waits.true

pub returns-else-waits-clause-found : goal.returns-else-waits-clause-found
returns-else-waits-clause-found g c = λ w of. all-ended w c.args.journals.now c.loop-index.index c.loop-index.waits c.loop-index.judge c.loop-index.judge (c.loop-index.invariant w of) (omega (arith, c.loop-index-test.false)) c.if-waits.false
