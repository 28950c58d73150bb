use Rattle.std.proofs.Common.{◌≡◌, ◌&&◌, ◌+◌, true, false, sym, ◌∙◌, ap, drop, arith}
use Rattle.std.specs.List.{list_all}
use Rattle.world_model.specs.Openings.{entry_within}
use Rattle.world_opening.proofs.JudgingFacts.{all-from, there}
use Rattle.world_opening.proofs.judging.record_within.Goals as goal
use Rattle.world_opening.proofs.judging.record_within.Goals.{in-Some+else-not-entry_within, in_default}

pub returns-then-not-entry_within : goal.returns-then-not-entry_within
returns-then-not-entry_within c =
    let test = entry_within c.args.attempts.now in
    let xs = c.args.node.now.entries in
    let i = c.loop-place.place in
    sym (c.loop-place.invariant ∙ all-from test xs i c.in-Some.entry (sym c.in-Some.ensures.found)
    ∙ ap (λ b. b && list_all test (drop (i + 1) xs)) (let e : test c.in-Some.entry ≡ false = sym c.if-not-entry_within.ensures in e))

pub loop-place-preserved : goal.loop-place-preserved
loop-place-preserved c =
    let test = entry_within c.args.attempts.now in
    let xs = c.args.node.now.entries in
    let i = c.loop-place.place in
    elim c.match-get.branch [
      | in-Some+else-not-entry_within w ↦ c.loop-place.invariant ∙ all-from test xs i w.in-Some.entry (sym w.in-Some.ensures.found) ∙ ap (λ b. b && list_all test (drop (i + 1) xs)) (let e : test w.in-Some.entry ≡ true = sym w.if-not-entry_within.ensures in e)
      | in_default w ↦ absurd (let e = there xs i (omega (arith, c.loop-place-test.true, c.len-place-end.ensures.len)) in w.in_default.not-Some e.0 (c.get.ensures.found ∙ e.1))
    ]
