use Rattle.service_status.specs.Texts.{has_ticket}
use Rattle.service_status.proofs.ListFacts.{counted, passed_by}
use Rattle.service_status.proofs.texts.count_tickets.Goals as goal
use Rattle.service_status.proofs.texts.count_tickets.Goals.{then-has_ticket, else-has_ticket}

pub loop-place-preserved : goal.loop-place-preserved
loop-place-preserved c =
    let test = has_ticket c.args.waits in
    elim c.if-has_ticket.branch [
      | then-has_ticket w ↦ counted test c.args.entries.now c.loop-place.place c.in-Some.entry c.has_ticket.result c.loop-place.count c.if-has_ticket.count c.in-Some.ensures.found c.loop-place.invariant c.has_ticket.ensures w.if-has_ticket.true w.count-is
      | else-has_ticket w ↦ passed_by test c.args.entries.now c.loop-place.place c.in-Some.entry c.has_ticket.result c.loop-place.count c.if-has_ticket.count c.in-Some.ensures.found c.loop-place.invariant c.has_ticket.ensures w.if-has_ticket.false w.count-is
    ]
