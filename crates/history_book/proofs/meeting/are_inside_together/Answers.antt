use Rattle.std.proofs.Common.{◌≡◌, ◌↔◌, true, sym, subst, ◌∙◌}
use Rattle.world_model.specs.Forgetting.{forget}
use Rattle.history_book.specs.Books.{AreInsideOneResource, Reads}
use Rattle.history_book.proofs.Meetings.{met, both_read}
use Rattle.history_book.proofs.meeting.are_inside_together.Goals as goal

pub returns-clause-met : goal.returns-clause-met
returns-clause-met g c =
    let first = c.ticket_of-first in
    let second = c.ticket_of-second in
    subst (λ r. (r ≡ true) ↔ AreInsideOneResource (forget c.args.world.now) c.args.one c.args.other) (sym c.are_together.ensures)
    (met (forget c.args.world.now) c.args.one c.args.other first.result second.result first.ensures.set second.ensures.set first.ensures.own second.ensures.own)

pub returns-clause-read : goal.returns-clause-read
returns-clause-read g c =
    λ together.
    let first = c.ticket_of-first in
    let second = c.ticket_of-second in
    let read = both_read (forget c.args.world.now) c.args.one c.args.other first.result second.result c.soundness.ensures.exclusive first.ensures.set second.ensures.set first.ensures.own second.ensures.own (sym c.are_together.ensures ∙ together) in
    (subst Reads first.ensures.ticket read.0, subst Reads second.ensures.ticket read.1)
