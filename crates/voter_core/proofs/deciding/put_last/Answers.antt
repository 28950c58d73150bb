use Rattle.std.proofs.Common.{cond, sym, ap, ◌∙◌, subst, arith}
use Rattle.lock_model.specs.ExactDecisions.{moved_last}
use Rattle.stable_record.specs.Lines.{Indexes}
use Rattle.voter_core.proofs.deciding.put_last.Goals as goal

pub returns-clause-indexed : goal.returns-clause-indexed
returns-clause-indexed c =
    let es = c.args.entries.now in
    let e = c.args.entry in
    subst (Indexes c.confirm.new.self) (sym (c.move_last.ensures ∙ ap (λ b. cond b (moved_last e es) es) c.requires.known))
    (c.confirm.ensures c.requires.indexed.0 es c.requires.indexed.1 (record { once = c.entry_of-known.ensures.once; few = omega (arith, c.len-len.ensures.few, c.len-len.ensures.len); none = c.requires.none }) c.requires.indexed.2)
