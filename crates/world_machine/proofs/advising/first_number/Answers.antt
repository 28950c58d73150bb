use Rattle.std.proofs.Common.{◌≡◌, None, Some, ◌∙◌, ap}
use Rattle.std.specs.Prelude.{is_some}
use Rattle.std.specs.List.{position}
use Rattle.world_model.specs.Advice.{is_grant}
use Rattle.stable_record.proofs.ListFacts.{place-some}
use Rattle.world_machine.proofs.AdvisingFacts.{place-passes}
use Rattle.world_machine.proofs.advising.first_number.Goals as goal

pub returns-in-Some-clause-granted : goal.returns-in-Some-clause-granted
returns-in-Some-clause-granted c =
    let p = is_grant c.args.node c.args.ticket.now in
    let is = c.in-Some.is in
    let first = c.place_of_grant.ensures.first in
    let there : position p c.args.sent.now ≡ Some c.in-Some.place = cc in
    place-passes p c.args.sent.now c.in-Some.place there c.in-Some.ensures.within

pub returns-in-Some-clause-some : goal.returns-in-Some-clause-some
returns-in-Some-clause-some c =
    let p = is_grant c.args.node c.args.ticket.now in
    let is = c.in-Some.is in
    let first = c.place_of_grant.ensures.first in
    let there : Some c.in-Some.place ≡ position p c.args.sent.now = cc in
    ap is_some there ∙ place-some p c.args.sent.now

pub returns-in-None-clause-some : goal.returns-in-None-clause-some
returns-in-None-clause-some c =
    let p = is_grant c.args.node c.args.ticket.now in
    let is = c.in-None.is in
    let first = c.place_of_grant.ensures.first in
    let none : None ≡ position p c.args.sent.now = cc in
    ap is_some none ∙ place-some p c.args.sent.now
