use Rattle.std.proofs.Common.{◌∙◌, ap, subst, sym, refl, inl, inr, List}
use Rattle.std.specs.Prelude.{IsOk}
use Rattle.std.proofs.lemmas.Result.{err_from_is_err_and}
use Rattle.lock_model.specs.declared.entries.Entry.{Entry}
use Rattle.stable_record.proofs.FieldFacts.{entry_new}
use Rattle.stable_record.proofs.RecordFacts.{read, one_read, one_fails}
use Rattle.stable_record.proofs.reading.Unread.next_entry.Goals as goal

pub returns-in_err-client : goal.returns-in_err-client
returns-in_err-client c =
    let p = err_from_is_err_and c.from_residual.result c.from_residual.ensures.1 in
    rw (p.1, p.2) (inr (one_fails c.args.entries.now c.args.self.now.bytes.now c.in_err-client.field-0.0 c.in_err-client.ensures))

pub put_last-requires : goal.put_last-requires
put_last-requires c = entry_new c.args.entries.now c.args.self.now.bytes.now (c.in_ok-client.field-0, c.entry.new.self.bytes.now) c.in_ok-client.ensures

pub returns-in-Ok : goal.returns-in-Ok
returns-in-Ok c =
    one_read c.args.entries.now c.args.self.now.bytes.now c.in_ok-client.field-0 c.entry.new.self.bytes.now c.in_ok-client.ensures
    ∙ ap (λ (l : List Entry). read (l, c.entry.new.self.bytes.now)) (sym c.in-Ok.ensures)

pub returns-in-Err : goal.returns-in-Err
returns-in-Err c =
    inl (refl, subst IsOk (sym (one_read c.args.entries.now c.args.self.now.bytes.now c.in_ok-client.field-0 c.entry.new.self.bytes.now c.in_ok-client.ensures)) refl)
