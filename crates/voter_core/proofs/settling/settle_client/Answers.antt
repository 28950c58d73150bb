use Rattle.std.proofs.Common.{◌≡◌, ◌++◌, [], ◌∷◌, None, Some, sym, ap, ◌∙◌, arith}
use Rattle.std.proofs.lemmas.List.{append-nil}
use Rattle.lock_model.specs.ExactDecisions.{grant_of}
use Rattle.voter_core.specs.Voters.{admitted_now}
use Rattle.voter_core.proofs.EntryFacts.{none-of}
use Rattle.voter_core.proofs.EndFacts.{known-entry}
use Rattle.voter_core.proofs.QueueFacts.{among, turn-stays, turn-holds, turned-live}
use Rattle.voter_core.proofs.settling.settle_client.Goals as goal

pub returns-in_default-admitted_now-clause-entries : goal.returns-in_default-admitted_now-clause-entries
returns-in_default-admitted_now-clause-entries g c =
    let es = c.args.entries.now in
    let none : admitted_now c.args.problem es c.in-Some.entry.live ≡ None = sym (c.admitted_now.ensures c.requires.indexed.0 es c.requires.indexed.1) ∙ none-of c.admitted_now.result c.in_default-admitted_now.not-Some in
    (turn-stays c.args.problem c.args.node c.args.client es c.in-Some.entry c.entry_of.ensures.once (sym c.in-Some.ensures.found) none).0

pub returns-in_default-admitted_now-clause-replies : goal.returns-in_default-admitted_now-clause-replies
returns-in_default-admitted_now-clause-replies g c =
    let es = c.args.entries.now in
    let first = c.args.replies.now.items in
    let none : admitted_now c.args.problem es c.in-Some.entry.live ≡ None = sym (c.admitted_now.ensures c.requires.indexed.0 es c.requires.indexed.1) ∙ none-of c.admitted_now.result c.in_default-admitted_now.not-Some in
    sym (append-nil first) ∙ ap (λ ms. first ++ ms) (sym (turn-stays c.args.problem c.args.node c.args.client es c.in-Some.entry c.entry_of.ensures.once (sym c.in-Some.ensures.found) none).1)

pub returns-in_default-admitted_now-clause-answer : goal.returns-in_default-admitted_now-clause-answer
returns-in_default-admitted_now-clause-answer g c =
    let es = c.args.entries.now in
    let none : admitted_now c.args.problem es c.in-Some.entry.live ≡ None = sym (c.admitted_now.ensures c.requires.indexed.0 es c.requires.indexed.1) ∙ none-of c.admitted_now.result c.in_default-admitted_now.not-Some in
    sym (turn-stays c.args.problem c.args.node c.args.client es c.in-Some.entry c.entry_of.ensures.once (sym c.in-Some.ensures.found) none).2

pub hold-requires-clause-among : goal.hold-requires-clause-among
hold-requires-clause-among g c = among c.args.client c.args.entries.now c.in-Some.entry c.entry_of.ensures.once (omega (arith, c.len-len.ensures.few, c.len-len.ensures.len)) (sym c.in-Some.ensures.found)

pub hold-requires-clause-live : goal.hold-requires-clause-live
hold-requires-clause-live g c =
    turned-live c.args.problem c.args.entries.now c.in-Some.entry.live c.in-Some-admitted_now.live (sym (c.in-Some-admitted_now.ensures c.requires.indexed.0 c.args.entries.now c.requires.indexed.1))

pub returns-clause-entries : goal.returns-clause-entries
returns-clause-entries g c =
    let es = c.args.entries.now in
    let some = sym (c.in-Some-admitted_now.ensures c.requires.indexed.0 es c.requires.indexed.1) in
    c.hold.ensures.entries ∙ (turn-holds c.args.problem c.args.node c.args.client es c.in-Some.entry c.in-Some-admitted_now.live (sym c.in-Some.ensures.found) some).0

pub returns-clause-replies : goal.returns-clause-replies
returns-clause-replies g c =
    let es = c.args.entries.now in
    let m = c.in-Some-admitted_now.live in
    let n = c.args.node in
    let first = c.args.replies.now.items in
    let some = sym (c.in-Some-admitted_now.ensures c.requires.indexed.0 es c.requires.indexed.1) in
    c.push_reserved.ensures.items ∙ ap (λ r. first ++ r ∷ []) c.grant.ensures
    ∙ ap (λ k. first ++ grant_of n k (Some m)) (sym (known-entry c.args.client es c.in-Some.entry (sym c.in-Some.ensures.found)).1)
    ∙ ap (λ ms. first ++ ms) (sym (turn-holds c.args.problem n c.args.client es c.in-Some.entry m (sym c.in-Some.ensures.found) some).1)

pub returns-clause-answer : goal.returns-clause-answer
returns-clause-answer g c =
    let es = c.args.entries.now in
    let some = sym (c.in-Some-admitted_now.ensures c.requires.indexed.0 es c.requires.indexed.1) in
    sym (turn-holds c.args.problem c.args.node c.args.client es c.in-Some.entry c.in-Some-admitted_now.live (sym c.in-Some.ensures.found) some).2
