use Rattle.std.proofs.Common.{◌≡◌, None, sym, ap, ◌∙◌, ◌++◌, subst}
use Rattle.std.proofs.lemmas.List.{append-nil}
use Rattle.voter_core.specs.Freed.{OthersStay}
use Rattle.voter_core.proofs.FreedFacts.{idle-settled, none-freed}
use Rattle.lock_model.proofs.SwitchFacts.{grants-same}
use Rattle.voter_core.proofs.settling.settle.Goals as goal

pub returns-in_default-clause-entries : goal.returns-in_default-clause-entries
returns-in_default-clause-entries g c =
    let none : c.args.freed ≡ None = none-freed c.args.freed c.in_default.not-Some in
    idle-settled c.args.problem c.args.entries.now (subst (λ o. OthersStay c.args.problem o c.args.entries.now) none c.requires.others)

pub returns-in_default-clause-replies : goal.returns-in_default-clause-replies
returns-in_default-clause-replies g c =
    sym (append-nil c.args.replies.now.items) ∙ ap (λ ms. c.args.replies.now.items ++ ms) (sym (grants-same c.args.node c.args.entries.now))
