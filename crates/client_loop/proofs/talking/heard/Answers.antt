use Rattle.std.proofs.Common.{rules}
use Rattle.actor_steps.proofs.ReadingFacts.{read_heard}
use Rattle.client_loop.proofs.Logs.{visits-adds}
use Rattle.client_loop.proofs.HearFacts.{hear_stands}
use Rattle.client_loop.proofs.SentFacts.{read_sends_nothing}
use Rattle.client_loop.proofs.talking.heard.Goals as goal

pub returns-clause-listens : goal.returns-clause-listens
returns-clause-listens g c =
    let read = rw c.in-Some.is at c.in_ok-message.ensures.read in
    let logged = read_heard _ _ _ _ _ read in
    record {
      silent = read_sends_nothing _ _ _ _ _ read;
      stands = rw c.hear-heard.ensures.exact (hear_stands _ _ _ c.args.core.now c.client.result c.args.number c.in-Some.message logged.0 c.requires.stands c.client.ensures logged.1);
      phase = search rules;
      ticket = search rules;
      quiet = record { visits = visits-adds _ _ _ _ read.added; falls = search rules };
    }

pub returns-clause-heard : goal.returns-clause-heard
returns-clause-heard g c =
    let read = rw c.in-Some.is at c.in_ok-message.ensures.read in
    let logged = read_heard _ _ _ _ _ (rw c.client.ensures at read) in
    record { told = logged.0; logged = logged.1; made = c.hear-heard.ensures.heard; core = c.hear-heard.ensures.exact }
