use Rattle.std.proofs.Common.{◌<◌, List, length, refl, sym, subst}
use Rattle.std.proofs.lemmas.Option.{slice_get_read}
use Rattle.journal_merger.specs.Pendings.{Pending}
use Rattle.journal_merger.proofs.PendingFacts.{read-on, apart-set}
use Rattle.journal_merger.proofs.OutFacts.{gathers-all, gathers-at}
use Rattle.journal_merger.proofs.journals.Journals.go_on.Goals as goal

pub invariant_of-self : goal.invariant_of-self
invariant_of-self g c =
    let within : c.args.index < length c.self.inside.journals.items = subst (λ (ps : List Pending). c.args.index < length ps) (sym c.self.view_is) c.requires in
    apart-set c.args.index c.self.inside.journals.items c.index_mut.result.now c.advance.new.self
    (slice_get_read c.self.inside.journals.items (length c.self.inside.journals.items) c.args.index c.index_mut.result.now refl within c.index_mut.ensures.value) c.advance.ensures.who c.self.invariant

pub returns-clause-read : goal.returns-clause-read
returns-clause-read g c =
    let within : c.args.index < length c.self.inside.journals.items = subst (λ (ps : List Pending). c.args.index < length ps) (sym c.self.view_is) c.requires in
    read-on c.args.index c.self.inside.journals.items c.args.self.now c.index_mut.result.now c.advance.new.self c.advance.result c.self.view_is
    (slice_get_read c.self.inside.journals.items (length c.self.inside.journals.items) c.args.index c.index_mut.result.now refl within c.index_mut.ensures.value) c.advance.ensures.who c.advance.ensures.number c.advance.ensures.next

pub returns-clause-text : goal.returns-clause-text
returns-clause-text g c =
    let out = g.W.Write.contents in
    let within : c.args.index < length c.self.inside.journals.items = subst (λ (ps : List Pending). c.args.index < length ps) (sym c.self.view_is) c.requires in
    let at = slice_get_read c.self.inside.journals.items (length c.self.inside.journals.items) c.args.index c.index.result.now refl within c.index.ensures in
    gathers-all (out c.args.writer.now) (out c.put_taken.new.writer) c.args.out.now c.put_taken.new.out _ c.put_taken.result _ c.advance.result c.in-Ok.is
    (gathers-at (out c.args.writer.now) (out c.put_taken.new.writer) c.args.out.now c.put_taken.new.out c.self.inside.journals.items c.args.self.now c.args.index c.index.result.now c.args.taken.now c.put_taken.result c.self.view_is at c.put_taken.ensures.text)
