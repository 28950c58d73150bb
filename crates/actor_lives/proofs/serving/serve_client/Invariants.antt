use Rattle.actor_lives.specs.Serving.{RestsAgain, OwesTo}
use Rattle.actor_lives.proofs.serving.serve_client.Given as goal

-- between two commands the session rests, and each node that has not answered is known
abbrev pub invariant-loop : goal.invariant-loop
invariant-loop g l = record {
  rests : RestsAgain l.fn.session l.session;
  owing : OwesTo l.session l.memo.owing;
}
