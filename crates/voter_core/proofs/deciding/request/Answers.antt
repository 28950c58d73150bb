use Rattle.std.proofs.Common.{sym, ap, ◌∙◌}
use Rattle.lock_model.specs.ExactDecisions.{reply_to_known}
use Rattle.voter_core.specs.Voters.{note_unless}
use Rattle.voter_core.proofs.ChangeFacts.{request-changes, on-err-as}
use Rattle.voter_core.proofs.deciding.request.Goals as goal

pub returns-in_ok-take_up-in-None-clause-changed : goal.returns-in_ok-take_up-in-None-clause-changed
returns-in_ok-take_up-in-None-clause-changed g c =
    request-changes c.args.node c.args.problem c.args.entries.now c.args.ticket.now (ap (reply_to_known c.args.node c.args.ticket.now) (sym c.entry_of.ensures.found) ∙ sym c.in-None.ensures)

pub returns-in_err-take_up-in-None-clause-refused : goal.returns-in_err-take_up-in-None-clause-refused
returns-in_err-take_up-in-None-clause-refused g c = on-err-as c.from_residual.result _ c.in_err-take_up-in-None.ensures.refused

pub returns-in_ok-take_up-in-None-clause-untold : goal.returns-in_ok-take_up-in-None-clause-untold
returns-in_ok-take_up-in-None-clause-untold g c = λ h.
    c.in_ok-take_up-in-None.ensures.untold
    (sym (ap (λ o. note_unless o c.args.problem c.args.entries.now c.args.ticket.now) (ap (reply_to_known c.args.node c.args.ticket.now) (sym c.entry_of.ensures.found) ∙ sym c.in-None.ensures)) ∙ h)

pub take_up-requires-clause-new : goal.take_up-requires-clause-new
take_up-requires-clause-new g c = ap (reply_to_known c.args.node c.args.ticket.now) (sym c.entry_of.ensures.found) ∙ sym c.in-None.ensures

pub returns-in_ok-take_up-in-None-clause-told_first : goal.returns-in_ok-take_up-in-None-clause-told_first
returns-in_ok-take_up-in-None-clause-told_first g c = λ here b h.
    c.in_ok-take_up-in-None.ensures.told_first here b
    (sym (ap (λ o. note_unless o c.args.problem c.args.entries.now c.args.ticket.now) (ap (reply_to_known c.args.node c.args.ticket.now) (sym c.entry_of.ensures.found) ∙ sym c.in-None.ensures)) ∙ h)

pub returns-in_ok-take_up-in-None-clause-told_second : goal.returns-in_ok-take_up-in-None-clause-told_second
returns-in_ok-take_up-in-None-clause-told_second g c = λ here b h.
    c.in_ok-take_up-in-None.ensures.told_second here b
    (sym (ap (λ o. note_unless o c.args.problem c.args.entries.now c.args.ticket.now) (ap (reply_to_known c.args.node c.args.ticket.now) (sym c.entry_of.ensures.found) ∙ sym c.in-None.ensures)) ∙ h)
