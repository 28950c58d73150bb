use Rattle.std.proofs.Common.{map, sym, ◌∙◌}
use Rattle.std.proofs.lemmas.List.{length-map}
use Rattle.world_opening.proofs.JudgingFacts.{fit_to_open, fit_not}
use Rattle.world_opening.proofs.judging.judge.Goals as goal

pub returns-in-Err-clause-refused : goal.returns-in-Err-clause-refused
returns-in-Err-clause-refused c = c.in-Err.ensures.refused (map (λ v. v.items) c.args.clients.now)

pub returns-in-Err-attempts_of-clause-refused : goal.returns-in-Err-attempts_of-clause-refused
returns-in-Err-attempts_of-clause-refused c = c.in-Err-attempts_of.ensures.refused (map (λ v. v.items) c.args.nodes.now) c.in-Ok.records.items c.in-Ok.ensures.records

pub returns-then-not-fits-clause-refused : goal.returns-then-not-fits-clause-refused
returns-then-not-fits-clause-refused c = (c.in-Ok.records.items, c.in-Ok-attempts_of.attempts.items, c.in-Ok.ensures.records, c.in-Ok-attempts_of.ensures.attempts, fit_not c.in-Ok-attempts_of.attempts.items c.in-Ok.records.items (sym c.if-not-fits.ensures))

pub returns-clause-resumable : goal.returns-clause-resumable
returns-clause-resumable c b crosses votes =
    fit_to_open (map (λ v. v.items) c.args.nodes.now) (map (λ v. v.items) c.args.clients.now) c.in-Ok.records.items c.in-Ok-attempts_of.attempts.items c.in-Ok.ensures.records c.in-Ok-attempts_of.ensures.attempts (sym c.if-not-fits.ensures)
    b crosses (length-map c.args.nodes.now (λ v. v.items) ∙ votes)
