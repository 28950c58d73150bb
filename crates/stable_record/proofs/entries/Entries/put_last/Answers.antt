use Rattle.std.proofs.Common.{sym, ap, ◌∙◌, subst, List, [], ◌∷◌, ◌++◌}
use Rattle.lock_messages.specs.Ids.{IsClient}
use Rattle.lock_model.specs.declared.entries.Entry.{Entry}
use Rattle.lock_model.specs.ExactStations.{knows}
use Rattle.stable_record.specs.EntryLists.{AreEntries}
use Rattle.stable_record.proofs.ListFacts.{still-pushed}
use Rattle.stable_record.proofs.entries.Entries.put_last.Goals as goal

pub invariant_of-self-2 : goal.invariant_of-self-2
invariant_of-self-2 c =
    let f = c.args.entry in
    let es = c.self.inside.list.items in
    let new = ap (knows f.client) c.self.view_is ∙ c.requires in
    subst AreEntries (sym (c.push_reserved.ensures.items ∙ ap (λ (l : List Entry). l ++ f ∷ []) c.reserve.ensures.items))
    (still-pushed f es (subst IsClient c.get.ensures.number c.get.ensures.in_range) new c.self.invariant)
