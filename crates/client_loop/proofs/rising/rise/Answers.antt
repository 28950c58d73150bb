use Rattle.std.proofs.Common.{arith, rules}
use Rattle.client_loop.proofs.Attempts.{rises-first}
use Rattle.actor_steps.proofs.EndFacts.{failures_stay}
use Rattle.actor_steps.proofs.SendingFacts.{first_rise_sends_nothing}
use Rattle.client_loop.proofs.BeginFacts.{risen_client}
use Rattle.client_loop.proofs.rising.rise.Goals as goal

pub returns : goal.returns
returns g c = record {
  begins = record {
    client = search (rules, risen_client);
    silent = search (rules, first_rise_sends_nothing);
    entered = search rules;
    softened = search rules;
    begins = search rules;
    whose = search rules;
    ballots = search rules;
    opening = search rules;
    falls = let same = c.rise_first.ensures.falls in failures_stay _ _ _ _ (omega (arith, same)) c.rise_first.ensures.count;
    own = search rules;
  };
  rests = record {
    stands = rw c.of.ensures (rw c.rise.ensures
        (rises-first _ _ _ _ _ _ c.args.client c.args.ballots _ c.in-Ok.attempt c.requires.unused c.requires.ballots c.requires.kept c.in_ok-bytes.ensures.risen c.in_ok-bytes.ensures.found c.as_slice.ensures.value c.in-Ok.is c.read_client.ensures.only));
    idle = search rules;
    free = search rules;
  };
  ended = search rules;
}
