use Rattle.std.proofs.Common.{sym, ap, ◌∙◌, arith}
use Rattle.lock_model.specs.ExactStations.{if_live}
use Rattle.voter_core.specs.Freed.{is_softened_by}
use Rattle.voter_core.proofs.QueueFacts.{among}
use Rattle.voter_core.proofs.SoftenFacts.{softened-unknown, softened-same, softened-known}
use Rattle.voter_core.proofs.deciding.soften_ticket.Goals as goal

pub returns-in_err-entry-clause-softened : goal.returns-in_err-entry-clause-softened
returns-in_err-entry-clause-softened c = softened-unknown c.args.client c.args.attempt c.args.entries.now (sym c.entry_of.ensures.found ∙ c.in_err-entry.was)

pub returns-in_err-live-clause-softened : goal.returns-in_err-live-clause-softened
returns-in_err-live-clause-softened c =
    softened-same c.args.client c.args.attempt c.args.entries.now c.in_ok-entry.entry c.entry_of.ensures.once (sym c.entry_of.ensures.found ∙ c.in_ok-entry.was) (ap (if_live (is_softened_by c.args.attempt)) c.in_err-live.was)

pub returns-then-not-is_softened_by-clause-softened : goal.returns-then-not-is_softened_by-clause-softened
returns-then-not-is_softened_by-clause-softened c =
    softened-same c.args.client c.args.attempt c.args.entries.now c.in_ok-entry.entry c.entry_of.ensures.once (sym c.entry_of.ensures.found ∙ c.in_ok-entry.was)
    (ap (if_live (is_softened_by c.args.attempt)) c.in_ok-live.was ∙ sym c.is_softened_by.ensures ∙ c.if-not-is_softened_by.true)

pub soften_known-requires-clause-among : goal.soften_known-requires-clause-among
soften_known-requires-clause-among c =
    among c.args.client c.args.entries.now c.in_ok-entry.entry c.entry_of.ensures.once (omega (arith, c.len-len.ensures.few, c.len-len.ensures.len)) (sym c.entry_of.ensures.found ∙ c.in_ok-entry.was)

pub returns-clause-softened : goal.returns-clause-softened
returns-clause-softened c =
    c.soften_known.ensures.entries ∙ softened-known c.args.client c.args.attempt c.args.entries.now c.in_ok-entry.entry c.entry_of.ensures.once (sym c.entry_of.ensures.found ∙ c.in_ok-entry.was)
