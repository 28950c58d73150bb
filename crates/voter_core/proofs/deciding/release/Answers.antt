use Rattle.std.proofs.Common.{◌≡◌, None, ap, ◌∙◌, arith}
use Rattle.lock_model.specs.ExactStations.{entry_of, settled}
use Rattle.lock_model.specs.ExactDecisions.{ended, grants}
use Rattle.voter_core.specs.Voters.{ends_something}
use Rattle.voter_core.proofs.ChangeFacts.{release-ended, release-told, said-length}
use Rattle.voter_core.specs.Freed.{freed}
use Rattle.voter_core.proofs.FreedFacts.{others-freed, waiting-ended}
use Rattle.voter_core.proofs.deciding.release.Goals as goal

pub returns-then-ended-clause-changed : goal.returns-then-ended-clause-changed
returns-then-ended-clause-changed g c =
    release-ended c.args.problem c.args.client c.args.attempt c.args.entries.now c.in_ok-ended.ended
    (c.in_ok-ended.ensures.changed ∙ ap (λ a. ends_something a (entry_of c.args.entries.now c.args.client)) c.get-last.ensures.number) c.if-ended.true

pub returns-else-ended-clause-changed : goal.returns-else-ended-clause-changed
returns-else-ended-clause-changed g c =
    let es = c.args.entries.now in
    let n = c.args.node in
    let after = ended c.args.client c.args.attempt es in
    let is : c.end.new.entries ≡ after = c.in_ok-ended.ensures.ended ∙ ap (λ a. ended c.args.client a es) c.get-last.ensures.number in
    let told : grants n c.end.new.entries c.settle.new.entries ≡ grants n after (settled c.args.problem after) =
    ap (λ l. grants n l c.settle.new.entries) is ∙ ap (grants n after) (c.settle.ensures.entries ∙ ap (settled c.args.problem) is) in
    release-told n c.args.problem c.args.client c.args.attempt es c.deref.result.now c.tells_grants.result c.in_ok-ended.ended c.in_ok-ended.ensures.once
    (c.in_ok-ended.ensures.changed ∙ ap (λ a. ends_something a (entry_of es c.args.client)) c.get-last.ensures.number) c.if-ended.false
    (said-length c.deref.result.now c.settle.new.replies.items c.push_reserved.new.self.items c.args.replies.now.items _ (grants n c.end.new.entries c.settle.new.entries) (grants n after (settled c.args.problem after))
    c.deref.ensures.value c.settle.ensures.replies c.push_reserved.ensures.items c.requires.none.0 told)
    c.tells_grants.ensures

pub settle-requires-clause-others : goal.settle-requires-clause-others
settle-requires-clause-others g c =
    others-freed c.args.problem c.args.client c.get-last.result c.args.entries.now c.freed-freed.result c.end.new.entries c.in_ok-ended.ensures.once c.requires.caused c.freed-freed.ensures.freed c.in_ok-ended.ensures.ended

pub settle-requires-clause-room : goal.settle-requires-clause-room
settle-requires-clause-room g c =
    let es = c.args.entries.now in
    let w = waiting-ended c.args.client c.args.attempt es c.freed-freed.result c.end.new.entries c.in_ok-ended.ensures.once
    (c.freed-freed.ensures.freed ∙ ap (λ n. freed (n) (entry_of es c.args.client)) c.get-last.ensures.number) (c.in_ok-ended.ensures.ended ∙ ap (λ n. ended c.args.client (n) es) c.get-last.ensures.number) in
    let same = c.waiting_for-waiting.ensures c.end.new.entries (c.in_ok-ended.ensures.indexed None c.requires.indexed) in
    omega (arith, w, same, c.push_reserved.ensures.len, c.push_reserved.ensures.capacity, c.requires.room, c.requires.none.1)

pub settle-requires-clause-waiting : goal.settle-requires-clause-waiting
settle-requires-clause-waiting g c = c.waiting_for-waiting.ensures c.end.new.entries (c.in_ok-ended.ensures.indexed None c.requires.indexed)

pub settle-requires-clause-indexed : goal.settle-requires-clause-indexed
settle-requires-clause-indexed g c = (None, c.in_ok-ended.ensures.indexed None c.requires.indexed)

pub returns-then-ended-clause-indexed : goal.returns-then-ended-clause-indexed
returns-then-ended-clause-indexed g c = c.settle.ensures.indexed None (c.in_ok-ended.ensures.indexed None c.requires.indexed)

pub returns-else-ended-clause-indexed : goal.returns-else-ended-clause-indexed
returns-else-ended-clause-indexed g c = c.settle.ensures.indexed None (c.in_ok-ended.ensures.indexed None c.requires.indexed)

pub returns-in_err-ended-clause-indexed : goal.returns-in_err-ended-clause-indexed
returns-in_err-ended-clause-indexed g c = c.end.ensures.indexed None c.requires.indexed
