use Rattle.std.proofs.Common.{not, sym, ap, ◌∙◌}
use Rattle.lock_model.specs.ExactStations.{any_live, writer_holds, admits_reader, admits}
use Rattle.voter_core.proofs.settling.admits.Goals as goal

pub returns-in-Write : goal.returns-in-Write
returns-in-Write g c = λ a es h.
    ap not (c.has_holder.ensures a es h) ∙ ap (λ m. admits c.args.problem m c.args.resource.now es) (sym c.in-Write.is)

pub returns-in-Read : goal.returns-in-Read
returns-in-Read g c = λ a es h.
    let p = c.args.problem in
    let x = c.args.resource.now in
    c.admits.ensures ∙ ap (λ b. admits_reader p b c.has_waiting_writer-writer_waits.result) (c.has_writing_holder-writer_holds.ensures a es h)
    ∙ ap (λ b. admits_reader p (any_live (writer_holds x) es) b) (c.has_waiting_writer-writer_waits.ensures a es h)
    ∙ ap (λ m. admits p m x es) (sym c.in-Read.is)
