use Rattle.std.proofs.Common.{rules}
use Rattle.client_loop.proofs.BeginFacts.{still_client}
use Rattle.client_loop.proofs.FindingFacts.{stands_own}
use Rattle.client_loop.proofs.NudgeFacts.{last_ended}
use Rattle.client_loop.proofs.SentFacts.{unless_from, unless_both}
use Rattle.client_loop.proofs.leaving.leave.Goals as goal

pub returns-in-Err : goal.returns-in-Err
returns-in-Err g c = record {
  leaves = record {
    client = search (rules, still_client);
    idle = search rules;
    most = search rules;
    quiet = search rules;
    own = search (rules, stands_own);
  };
  left = search rules;
  ended = record {
    which = search rules;
    sent = unless_from _ _ _ _ _ _ c.log_leave.ensures.still.silent (unless_both c.in-Err.fault c.end.result _ _ _ _ _ _ c.end.ensures.memory c.in-Err.ensures.waits.talks.sent.faulted c.end.ensures.faulted);
    cause = search rules;
    last = search (rules, last_ended);
    stands = search rules;
  };
}
