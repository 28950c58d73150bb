use Rattle.std.proofs.Common.{◌∙◌, ◌==◌, refl, sym, ap, length, arith}
use Rattle.std.proofs.lemmas.Option.{slice_get_read, slice_get_within}
use Rattle.world_model.specs.Parts.{place}
use Rattle.journal_merger.specs.Pendings.{Pending}
use Rattle.journal_merger.proofs.PendingFacts.{none-more}
use Rattle.journal_merger.proofs.journals.has.Goals as goal

pub loop-journal-preserved : goal.loop-journal-preserved
loop-journal-preserved g c =
    none-more c.args.journals.now c.args.who.now c.loop-journal.journal-index c.journal-item.result
    (slice_get_read c.args.journals.now (length c.args.journals.now) c.loop-journal.journal-index c.journal-item.result refl c.loop-journal-test.true c.journal-item.is)
    (ap (λ (p : Pending). place p.who == place c.args.who.now) (sym c.journal.view_is) ∙ sym c.is_same.ensures ∙ c.if-is_same.false) c.loop-journal.invariant

pub returns-clause-none : goal.returns-clause-none
returns-clause-none g c = λ no i p at. c.loop-journal.invariant i p (let within = slice_get_within c.args.journals.now i p at in omega (arith, within, c.loop-journal-test.false)) at

pub returns-then-is_same-clause-one : goal.returns-then-is_same-clause-one
returns-then-is_same-clause-one g c = λ yes. (
  c.loop-journal.journal-index,
  c.journal-item.result,
  slice_get_read c.args.journals.now (length c.args.journals.now) c.loop-journal.journal-index c.journal-item.result refl c.loop-journal-test.true c.journal-item.is,
  ap (λ (p : Pending). place p.who == place c.args.who.now) (sym c.journal.view_is) ∙ sym c.is_same.ensures ∙ c.if-is_same.true,
)
