use Rattle.std.proofs.Common.{sym, ap, ◌∙◌, subst, List, slice_set}
use Rattle.lock_model.specs.declared.entries.Entry.{Entry}
use Rattle.stable_record.specs.EntryLists.{AreEntries}
use Rattle.stable_record.proofs.ListFacts.{client-at, replaced-at, replaced-unknown, still-replaced}
use Rattle.stable_record.proofs.entries.Entries.replace.Goals as goal

pub invariant_of-self : goal.invariant_of-self
invariant_of-self c =
    let f = c.args.entry in
    let i = c.in-Some.place in
    let found = c.in-Some.ensures in
    let known = found.entries in
    subst AreEntries (sym (ap (λ (l : List Entry). slice_set l i f) c.self.view_is ∙ replaced-at f c.args.self.now i known.once found.place))
    (still-replaced f c.args.self.now (client-at f.client c.args.self.now i known.clients found.place) known)

pub returns-in-Some : goal.returns-in-Some
returns-in-Some c =
    let found = c.in-Some.ensures in
    ap (λ (l : List Entry). slice_set l c.in-Some.place c.args.entry) c.self.view_is
    ∙ replaced-at c.args.entry c.args.self.now c.in-Some.place found.entries.once found.place

pub returns-in_default : goal.returns-in_default
returns-in_default c = sym (replaced-unknown c.args.entry c.args.self.now (sym c.in_default.ensures.known))
