use Rattle.std.proofs.Common.{None, arith}
use Rattle.voter_core.proofs.SoftenFacts.{others-softened, waiting-softened, softening-changes}
use Rattle.voter_core.proofs.deciding.soften.Goals as goal

pub settle-requires-clause-others : goal.settle-requires-clause-others
settle-requires-clause-others g c =
    others-softened c.args.problem c.args.client c.args.attempt c.args.entries.now c.soften_ticket-freed.result c.soften_ticket-freed.new.entries c.soften_ticket-freed.ensures.once c.requires.caused
    c.soften_ticket-freed.ensures.freed c.soften_ticket-freed.ensures.softened

pub settle-requires-clause-waiting : goal.settle-requires-clause-waiting
settle-requires-clause-waiting g c = c.waiting_for-waiting.ensures c.soften_ticket-freed.new.entries (c.soften_ticket-freed.ensures.indexed None c.requires.indexed)

pub settle-requires-clause-indexed : goal.settle-requires-clause-indexed
settle-requires-clause-indexed g c = (None, c.soften_ticket-freed.ensures.indexed None c.requires.indexed)

pub settle-requires-clause-room : goal.settle-requires-clause-room
settle-requires-clause-room g c =
    let w = waiting-softened c.args.client c.args.attempt c.args.entries.now c.soften_ticket-freed.result c.soften_ticket-freed.new.entries c.soften_ticket-freed.ensures.once c.soften_ticket-freed.ensures.freed
    c.soften_ticket-freed.ensures.softened in
    let same = c.waiting_for-waiting.ensures c.soften_ticket-freed.new.entries (c.soften_ticket-freed.ensures.indexed None c.requires.indexed) in
    omega (arith, w, same, c.push_reserved.ensures.len, c.push_reserved.ensures.capacity, c.requires.room, c.requires.none.1)

pub returns-clause-changed : goal.returns-clause-changed
returns-clause-changed g c =
    softening-changes c.args.problem c.args.client c.args.attempt c.args.entries.now c.is_some-softened.result c.soften_ticket-freed.result c.soften_ticket-freed.ensures.once c.requires.caused
    c.soften_ticket-freed.ensures.freed c.is_some-softened.ensures

pub returns-clause-indexed : goal.returns-clause-indexed
returns-clause-indexed g c = c.settle.ensures.indexed None (c.soften_ticket-freed.ensures.indexed None c.requires.indexed)
