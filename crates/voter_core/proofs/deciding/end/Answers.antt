use Rattle.std.proofs.Common.{sym, ap, ◌∙◌, ◌&&◌, not, is_ok, refl, arith}
use Rattle.std.proofs.lemmas.Result.{IfOk-weaker}
use Rattle.lock_model.specs.ExactStations.{knows}
use Rattle.stable_record.specs.EntryLists.{replaced}
use Rattle.voter_core.proofs.EndFacts.{fresh, none-entry, known-entry, pushed-ends, pushed-changes, stays-ended, replaced-ends}
use Rattle.voter_core.proofs.QueueFacts.{among}
use Rattle.voter_core.proofs.TakingFacts.{pushed-indexed}
use Rattle.voter_core.proofs.deciding.end.Goals as goal

pub returns-in_default-clause-ended : goal.returns-in_default-clause-ended
returns-in_default-clause-ended c =
    pushed-ends c.args.client c.args.attempt c.args.entries.now c.push.new.self (is_ok c.push.result) (sym c.entry_of.ensures.found ∙ none-entry c.entry_of.result c.in_default.not-Some) c.push.ensures.pushed

pub returns-in_default-clause-changed : goal.returns-in_default-clause-changed
returns-in_default-clause-changed c =
    IfOk-weaker c.push.result _ _ (λ b h. pushed-changes c.args.client c.args.attempt c.args.entries.now b (sym c.entry_of.ensures.found ∙ none-entry c.entry_of.result c.in_default.not-Some) h) c.push.ensures.answer

pub returns-in_default-clause-indexed : goal.returns-in_default-clause-indexed
returns-in_default-clause-indexed c = λ a h.
    pushed-indexed a c.args.index.now c.args.entries.now c.push.new.self (fresh c.args.client c.args.attempt) (is_ok c.push.result && not (knows c.args.client c.args.entries.now)) c.strangers_leave_the_index.ensures refl c.push.ensures.pushed h

pub returns-then-floor-attempt-clause-ended : goal.returns-then-floor-attempt-clause-ended
returns-then-floor-attempt-clause-ended c =
    stays-ended c.args.client c.args.attempt c.args.entries.now _ c.entry_of.ensures.once c.in-Some.ensures.found c.if-floor-attempt.true

pub end_known-requires : goal.end_known-requires
end_known-requires c = among c.args.client c.args.entries.now c.in-Some.entry c.entry_of.ensures.once (omega (arith, c.len-len.ensures.few, c.len-len.ensures.len)) (sym c.in-Some.ensures.found)

pub returns-clause-ended : goal.returns-clause-ended
returns-clause-ended c =
    c.end_known.ensures.entries ∙ ap (λ k. replaced (fresh k c.args.attempt) c.args.entries.now) (known-entry c.args.client c.args.entries.now c.in-Some.entry (sym c.in-Some.ensures.found)).1
    ∙ replaced-ends c.args.client c.args.attempt c.args.entries.now _ c.entry_of.ensures.once c.in-Some.ensures.found c.if-floor-attempt.false
