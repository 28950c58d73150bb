use Rattle.std.proofs.Common.{◌≡◌, ◌+◌, ◌++◌, ap, ◌∙◌, subst, sym, arith, slice_set}
use Rattle.lock_model.specs.ExactStations.{settled_entry}
use Rattle.lock_model.specs.ExactDecisions.{told}
use Rattle.lock_model.proofs.PassFacts.{SettledUpTo, settled-more}
use Rattle.lock_model.proofs.settling.settle.Goals as goal

-- the entry at hand settles, and its Grant is told
pub loop-i-preserved : goal.loop-i-preserved
loop-i-preserved c =
    let now = c.loop-i.entries in
    let e = c.index-entries-i.result in
    let f = c.settled_entry-after.result in
    let is : f ≡ settled_entry c.args.problem now e = c.settled_entry-after.ensures in
    let said : c.tell.new.replies.items ≡ c.loop-i.replies.items ++ told c.args.node e (settled_entry c.args.problem now e) =
    c.in_ok-tell.ensures ∙ ap (λ g. c.loop-i.replies.items ++ told c.args.node e g) is in
    subst (λ g. SettledUpTo c.args.problem c.args.node c.args.entries.now c.args.replies.now.items (c.loop-i.i + 1) (slice_set now c.loop-i.i g) c.tell.new.replies.items) (sym is)
    (settled-more c.args.problem c.args.node c.args.entries.now c.args.replies.now.items c.loop-i.i now c.loop-i.replies.items e c.loop-i.invariant (omega arith) c.index-entries-i.is c.tell.new.replies.items said)
