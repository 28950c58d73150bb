use Rattle.client_loop.proofs.Logs.{visits-adds}
use Rattle.client_loop.proofs.SoftFacts.{soften_allowed, soften_stands}
use Rattle.client_loop.proofs.softening.log_soften.Goals as goal

pub log_plain-requires-clause-allowed : goal.log_plain-requires-clause-allowed
log_plain-requires-clause-allowed g c = soften_allowed _ _ c.args.core.now c.client.result c.requires.may c.requires.stands

pub returns-clause-softened : goal.returns-clause-softened
returns-clause-softened g c = record {
  stands = soften_stands _ _ _ c.args.core.now _ _ c.requires.may c.requires.stands c.in_ok-log_plain.ensures.logged;
  visits = visits-adds _ _ _ _ c.in_ok-log_plain.ensures.logged;
}
