use Rattle.std.proofs.Common.{◌∙◌, refl, sym, subst}
use Rattle.journal_merger.specs.Pendings.{AreApart}
use Rattle.journal_merger.specs.Pendings.{IsAddFault}
use Rattle.journal_merger.proofs.PendingFacts.{apart-pushed, was-added, on-ok, not-ok, on-err, not-err, add-unread, add-empty, add-same, add-memory, fault-ok, fault-err}
use Rattle.journal_merger.proofs.journals.Journals.add.Goals as goal
use Rattle.journal_merger.proofs.journals.Journals.add.Goals.{in-Ok-push, in-Err-push}

pub invariant_of-self : goal.invariant_of-self
invariant_of-self g c =
    elim c.match-push.branch [
      | in-Ok-push w ↦ apart-pushed c.self.inside.journals.items c.as_slice.result.now c.push.new.self.items _ c.as_slice.ensures.value w.in-Ok-push.ensures.items c.self.invariant (c.has.ensures.none c.if-has.false)
      | in-Err-push w ↦ subst AreApart (sym w.in-Err-push.ensures.items) c.self.invariant
    ]

pub returns-clause-added : goal.returns-clause-added
returns-clause-added g c =
    elim c.match-push.branch [
      | in-Ok-push w ↦
          on-ok c.match-push.result _ w.result-is
          (was-added c.args.self.now c.self.inside.journals.items c.push.new.self.items (g.R.Read.remaining c.args.reader) c.new-source.result c.read_next.new.source _ c.in-Ok.next c.in-Some.line
          c.self.view_is w.in-Ok-push.ensures.items c.new-source.ensures c.in-Ok.ensures.next c.in-Some.is (let v = c.source.view_is in cc) refl refl c.owner-who.ensures)
      | in-Err-push w ↦ not-ok _ c.match-push.result _ w.result-is
    ]

pub returns-clause-same : goal.returns-clause-same
returns-clause-same g c =
    elim c.match-push.branch [
      | in-Ok-push w ↦ not-err _ c.match-push.result _ w.result-is
      | in-Err-push w ↦ on-err c.match-push.result _ w.result-is (w.in-Err-push.ensures.items ∙ c.self.view_is)
    ]

pub returns-in-Err-clause-fault : goal.returns-in-Err-clause-fault
returns-in-Err-clause-fault g c = subst (λ t. IsAddFault c.args.self.now t c.in-Err.fault) c.new-source.ensures (add-unread c.args.self.now c.new-source.result c.in-Err.fault c.in-Err.ensures.fault)

pub returns-in-None-clause-fault : goal.returns-in-None-clause-fault
returns-in-None-clause-fault g c = add-empty c.args.self.now (g.R.Read.remaining c.args.reader) c.new-source.result c.read_next.new.source c.in-Ok.next c.new-source.ensures c.in-None.is c.in-Ok.ensures.next

pub returns-then-has-clause-fault : goal.returns-then-has-clause-fault
returns-then-has-clause-fault g c =
    add-same c.args.self.now c.self.inside.journals.items c.as_slice.result.now (g.R.Read.remaining c.args.reader) c.new-source.result c.read_next.new.source c.in-Ok.next c.in-Some.line c.owner-who.result
    c.as_slice.ensures.value c.self.view_is c.new-source.ensures c.in-Some.is c.in-Ok.ensures.next c.owner-who.ensures (c.has.ensures.one c.if-has.true)

pub returns-clause-fault : goal.returns-clause-fault
returns-clause-fault g c =
    elim c.match-push.branch [
      | in-Ok-push w ↦ fault-ok _ c.match-push.result _ w.result-is
      | in-Err-push w ↦ fault-err _ c.match-push.result _ w.result-is (add-memory c.args.self.now (g.R.Read.remaining c.args.reader))
    ]
