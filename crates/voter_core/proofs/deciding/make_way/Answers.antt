use Rattle.std.proofs.Common.{Some}
use Rattle.voter_core.proofs.deciding.make_way.Goals as goal

pub returns-in-Ok-clause-announced : goal.returns-in-Ok-clause-announced
returns-in-Ok-clause-announced c =
    c.end.ensures.indexed (Some (c.args.ticket.now.client, c.args.ticket.now.resource)) (c.in_ok-announce.ensures.announced c.args.entries.now c.requires)

pub returns-in-Err-clause-refused : goal.returns-in-Err-clause-refused
returns-in-Err-clause-refused c =
    c.withdraw.ensures c.args.ticket.now.client c.end.new.entries
    (c.end.ensures.indexed (Some (c.args.ticket.now.client, c.args.ticket.now.resource)) (c.in_ok-announce.ensures.announced c.args.entries.now c.requires))
