use Rattle.std.proofs.Common.{sym, ap, ◌∙◌, subst, List, [], ◌∷◌, ◌++◌, cond, remove}
use Rattle.lock_model.specs.declared.entries.Entry.{Entry}
use Rattle.lock_model.specs.ExactDecisions.{moved_last}
use Rattle.stable_record.specs.EntryLists.{AreEntries}
use Rattle.stable_record.proofs.ListFacts.{client-at, moved-at, still-moved}
use Rattle.stable_record.proofs.entries.Entries.move_last.Goals as goal

pub invariant_of-self : goal.invariant_of-self
invariant_of-self c =
    let f = c.args.entry in
    let i = c.in-Some.place in
    let found = c.in-Some.ensures in
    let known = found.entries in
    let left = c.remove.ensures.items ∙ ap (λ (l : List Entry). remove l i) c.self.view_is in
    subst AreEntries (sym (c.push_reserved.ensures.items ∙ ap (λ (l : List Entry). l ++ f ∷ []) left ∙ moved-at f c.args.self.now i known.once found.place))
    (still-moved f c.args.self.now (client-at f.client c.args.self.now i known.clients found.place) known)

pub returns-in-Some : goal.returns-in-Some
returns-in-Some c =
    let f = c.args.entry in
    let i = c.in-Some.place in
    let found = c.in-Some.ensures in
    let left = c.remove.ensures.items ∙ ap (λ (l : List Entry). remove l i) c.self.view_is in
    c.push_reserved.ensures.items ∙ ap (λ (l : List Entry). l ++ f ∷ []) left ∙ moved-at f c.args.self.now i found.entries.once found.place
    ∙ ap (λ b. cond b (moved_last f c.args.self.now) c.args.self.now) found.known
