use Rattle.std.proofs.Common.{subst, ◌≤◌, length}
use Rattle.world_model.specs.declared.events.Event.{Event}
use Rattle.own_recorders.specs.OwnJournals.{IsAllowedSomewhere}
use Rattle.own_recorders.proofs.LineFacts.{place_in_range}
use Rattle.own_recorders.proofs.lines.tell_range.Goals as goal

pub returns-in-Try : goal.returns-in-Try
returns-in-Try c = rw c.in-Try.is (c.tell_actor.ensures, tt)

pub returns-in-Kept : goal.returns-in-Kept
returns-in-Kept c = rw c.in-Kept.is (c.tell_actor-in-Kept.ensures, tt)

pub returns-in-Fall : goal.returns-in-Fall
returns-in-Fall c = rw c.in-Fall.is (c.tell_actor-in-Fall.ensures, tt)

pub returns-in-Rise : goal.returns-in-Rise
returns-in-Rise c = rw c.in-Rise.is (c.tell_actor-in-Rise.ensures, (tt, tt))

pub returns-in-Say : goal.returns-in-Say
returns-in-Say c = rw c.in-Say.is ((rw (← c.get-number-in-Say.ensures.number) c.get-number-in-Say.ensures.in_range), tt)

pub returns-in-Switch : goal.returns-in-Switch
returns-in-Switch c = rw c.in-Switch.is ((rw (← c.get-number-in-Switch.ensures.number) c.get-number-in-Switch.ensures.in_range), (tt, tt))

pub returns-in-Enter : goal.returns-in-Enter
returns-in-Enter c = rw c.in-Enter.is ((rw (← c.get-number-in-Enter.ensures.number) c.get-number-in-Enter.ensures.in_range), tt)

pub returns-in-Leave : goal.returns-in-Leave
returns-in-Leave c = rw c.in-Leave.is ((rw (← c.get-number-in-Leave.ensures.number) c.get-number-in-Leave.ensures.in_range), tt)

pub returns-in-Soften : goal.returns-in-Soften
returns-in-Soften c = rw c.in-Soften.is ((rw (← c.get-number-in-Soften.ensures.number) c.get-number-in-Soften.ensures.in_range), tt)

pub returns-in-SayTo : goal.returns-in-SayTo
returns-in-SayTo c = rw c.in-SayTo.is (rw (← c.get-number-in-SayTo.ensures.number) c.get-number-in-SayTo.ensures.in_range, (rw (← c.get-number-in-SayTo-2.ensures.number) c.get-number-in-SayTo-2.ensures.in_range, tt))

pub returns-in-Begin : goal.returns-in-Begin
returns-in-Begin c =
    let few : length c.args.list.now ≤ 8 = rw (← c.count-count.ensures.count) c.count-count.ensures.few_ballots in
    let place = place_in_range c.args.list.now c.in-Begin.client c.in-Begin.field-1 c.in-Begin.name c.in-Begin.field-3 (subst (λ (e : Event). IsAllowedSomewhere c.args.list.now e) c.in-Begin.is c.requires.allowed) few in
    rw c.in-Begin.is (rw (← c.get-number.ensures.number) c.get-number.ensures.in_range, (tt, (rw (← c.bytes-bytes.ensures.bytes) c.bytes-bytes.ensures.named, (place, tt))))
