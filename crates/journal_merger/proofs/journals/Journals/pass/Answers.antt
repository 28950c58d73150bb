use Rattle.std.proofs.Common.{◌<◌, List, length, refl, sym, subst}
use Rattle.std.proofs.lemmas.Option.{slice_get_read}
use Rattle.journal_merger.specs.Pendings.{Pending}
use Rattle.journal_merger.proofs.PendingFacts.{read-on, apart-set}
use Rattle.journal_merger.proofs.journals.Journals.pass.Goals as goal

pub invariant_of-self : goal.invariant_of-self
invariant_of-self g c =
    let within : c.args.index < length c.self.inside.journals.items = subst (λ (ps : List Pending). c.args.index < length ps) (sym c.self.view_is) c.requires in
    apart-set c.args.index c.self.inside.journals.items c.index_mut.result.now c.advance.new.self
    (slice_get_read c.self.inside.journals.items (length c.self.inside.journals.items) c.args.index c.index_mut.result.now refl within c.index_mut.ensures.value) c.advance.ensures.who c.self.invariant

pub returns-clause-read : goal.returns-clause-read
returns-clause-read g c =
    let within : c.args.index < length c.self.inside.journals.items = subst (λ (ps : List Pending). c.args.index < length ps) (sym c.self.view_is) c.requires in
    read-on c.args.index c.self.inside.journals.items c.args.self.now c.index_mut.result.now c.advance.new.self c.advance.result c.self.view_is
    (slice_get_read c.self.inside.journals.items (length c.self.inside.journals.items) c.args.index c.index_mut.result.now refl within c.index_mut.ensures.value) c.advance.ensures.who c.advance.ensures.number c.advance.ensures.next
