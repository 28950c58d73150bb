use Rattle.std.proofs.Common.{rules, sym}
use Rattle.client_loop.proofs.Logs.{visits-adds}
use Rattle.client_loop.proofs.SentFacts.{sayto_sends}
use Rattle.client_loop.proofs.talking.said.Goals as goal

pub returns-clause-quiet : goal.returns-clause-quiet
returns-clause-quiet g c = record { visits = visits-adds _ _ _ _ c.in_ok-said.ensures.logged; falls = search rules }

pub returns-clause-said : goal.returns-clause-said
returns-clause-said g c =
    sayto_sends _ _ _ c.args.core.now c.client.result c.args.node c.number.result c.in-Some.message c.in_ok-said.said c.requires c.client.ensures (sym c.in-Some.ensures) c.number.ensures c.in_ok-said.ensures.logged
