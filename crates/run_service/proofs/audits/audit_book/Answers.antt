use Rattle.std.proofs.Common.{rules, ◌≡◌, Some, Ok, sym, subst, ◌∙◌}
use Rattle.journal_audit.specs.Verdicts.{Finds}
use Rattle.journal_text.specs.Journals.{history_text}
use Rattle.run_service.proofs.audits.audit_book.Goals as goal

pub returns-in-Ok-audit-clause-sound : goal.returns-in-Ok-audit-clause-sound
returns-in-Ok-audit-clause-sound g c opened =
    let book = c.args.book.now in
    let text : c.as_slice.result.now ≡ history_text book.history = search rules in
    c.journals_are_sound.ensures.found book.opening book.world book.history c.in-Ok.ensures.recorded c.standing.ensures.few (Ok c.in-Ok-audit.verdict)
    (subst (λ w. Finds w (Some (history_text book.history)) (Ok c.in-Ok-audit.verdict)) (c.in-Ok-world_down.ensures ∙ sym opened)
    (subst (λ t. Finds c.in-Ok-world_down.world (Some t) (Ok c.in-Ok-audit.verdict)) text c.in-Ok-audit.ensures.verdict))
