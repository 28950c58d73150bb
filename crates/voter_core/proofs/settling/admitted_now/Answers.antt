use Rattle.std.proofs.Common.{sym, ◌∙◌}
use Rattle.voter_core.proofs.QueueFacts.{now-turns, now-holds, now-refused}
use Rattle.voter_core.proofs.settling.admitted_now.Goals.{else-waits-via-then-waits+else-admits, else-waits-via-else-waits}
use Rattle.voter_core.proofs.settling.admitted_now.Goals as goal

pub returns-then-admits : goal.returns-then-admits
returns-then-admits g c = λ a es h.
    now-turns c.args.problem es c.in_ok-live.live c.args.live c.in_ok-live.was (sym c.waits.ensures ∙ c.if-waits.true) (sym (c.admits.ensures a es h) ∙ c.if-admits.true)

pub returns-else-waits : goal.returns-else-waits
returns-else-waits g c = λ a es h.
    elim c.else-waits.branch [
      | else-waits-via-then-waits+else-admits w ↦ now-refused c.args.problem es c.in_ok-live.live c.args.live c.in_ok-live.was (sym c.waits.ensures ∙ w.if-waits.true) (sym (w.admits.ensures a es h) ∙ w.if-admits.false)
      | else-waits-via-else-waits w ↦ now-holds c.args.problem es c.in_ok-live.live c.args.live c.in_ok-live.was (sym c.waits.ensures ∙ w.if-waits.false)
    ]
