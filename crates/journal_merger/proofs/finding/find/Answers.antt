use Rattle.std.proofs.Common.{◌+◌, refl, sym, subst, length, arith}
use Rattle.std.proofs.lemmas.Option.{slice_get_read}
use Rattle.journal_merger.proofs.RoundFacts.{SoFar, more-waits, more-ended, all-idle, all-ended}
use Rattle.journal_merger.specs.Pendings.{Pending}
use Rattle.journal_merger.specs.Merges.{IsTurn}
use Rattle.journal_merger.proofs.finding.find.Goals.{in-Ended, in-Waits}
use Rattle.journal_merger.proofs.finding.find.Goals as goal

pub loop-index-preserved : goal.loop-index-preserved
loop-index-preserved g c =
    let at = slice_get_read c.args.journals.now (length c.args.journals.now) c.loop-index.index c.index-journals-index.result refl c.loop-index-test.true c.index-journals-index.is in
    let turn : IsTurn c.loop-index.world c.index-journals-index.result.who c.index-journals-index.result.next c.in-Ok.turn c.offer_next.new.world =
    subst (λ (p : Pending). IsTurn c.loop-index.world p.who p.next c.in-Ok.turn c.offer_next.new.world) c.journal.view_is c.in-Ok.ensures.turn in
    elim c.match-turn.branch [
      | in-Ended w ↦
          subst (λ t. SoFar c.args.world.now c.offer_next.new.world c.args.journals.now (c.loop-index.index + 1) t c.offer_next.new.numbers) (sym w.waits-is)
          (more-ended c.args.world.now c.loop-index.world c.offer_next.new.world c.args.journals.now c.loop-index.index c.index-journals-index.result c.in-Ok.turn c.loop-index.waits c.loop-index.numbers c.offer_next.new.numbers c.loop-index.invariant at w.in-Ended.is turn c.in-Ok.ensures.index)
      | in-Waits w ↦
          subst (λ t. SoFar c.args.world.now c.offer_next.new.world c.args.journals.now (c.loop-index.index + 1) t c.offer_next.new.numbers) (sym w.waits-is)
          (more-waits c.args.world.now c.loop-index.world c.offer_next.new.world c.args.journals.now c.loop-index.index c.index-journals-index.result c.in-Ok.turn c.loop-index.waits c.loop-index.numbers c.offer_next.new.numbers c.loop-index.invariant at w.in-Waits.is turn c.in-Ok.ensures.index)
    ]

pub returns-then-waits-clause-found : goal.returns-then-waits-clause-found
returns-then-waits-clause-found g c = all-idle c.args.world.now c.loop-index.world c.loop-index.world c.args.journals.now c.loop-index.index c.loop-index.waits c.loop-index.numbers c.loop-index.invariant (omega (arith, c.loop-index-test.false)) c.if-waits.true

pub returns-else-waits-clause-found : goal.returns-else-waits-clause-found
returns-else-waits-clause-found g c = all-ended c.args.world.now c.loop-index.world c.args.journals.now c.loop-index.index c.loop-index.waits c.loop-index.numbers c.loop-index.invariant (omega (arith, c.loop-index-test.false)) c.if-waits.false
