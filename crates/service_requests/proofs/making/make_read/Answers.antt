use Rattle.std.proofs.Common.{inl, inr, List, ℕ, subst}
use Rattle.service_requests.specs.Requests.{MakesFrom}
use Rattle.service_requests.proofs.making.make_read.Goals as goal

pub returns-in-Ok : goal.returns-in-Ok
returns-in-Ok g c =
    inl (
      c.in-Ok.text.items,
      c.in-Ok.ensures.text,
      subst (λ (t : List ℕ). MakesFrom t c.args.part (g.E.Write.contents c.args.errors.now) (g.E.Write.contents c.make_from.new.errors) c.make_from.result) c.as_slice.ensures.value c.make_from.ensures,
    )

pub returns-in-Err : goal.returns-in-Err
returns-in-Err g c = inr (c.in-Err.fault, c.in-Err.ensures.faults, c.tell_fault.ensures)
