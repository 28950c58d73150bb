use Rattle.std.proofs.Common.{rules, refl}
use Rattle.actor_steps.proofs.EndFacts.{failures_stay}
use Rattle.actor_steps.proofs.FindingFacts.{part_own}
use Rattle.client_loop.proofs.AttemptFacts.{most_silently, risen_silently}
use Rattle.client_loop.proofs.Attempts.{rises-again, reads-again}
use Rattle.client_loop.proofs.attempting.rise_anew.Goals as goal

pub unreachable-requires : goal.unreachable-requires
unreachable-requires g c =
    let range = rw c.attempt.ensures.attempt at c.attempt.ensures.in_range in
    let read = reads-again _ _ _ _ _ _ _ _ c.args.core.now _ _ range c.requires c.in_ok-found.ensures.risen c.in_ok-found.ensures.found c.as_slice.ensures.value c.read_client.ensures.only in
    c.in_default.not-Ok read.0 read.1

pub returns-clause-rests : goal.returns-clause-rests
returns-clause-rests g c =
    let range = rw c.attempt.ensures.attempt at c.attempt.ensures.in_range in
    record {
      stands = rw c.restart.ensures
          (rises-again _ _ _ _ _ _ _ _ c.args.core.now _ _ c.in-Ok.attempt range c.requires c.in_ok-found.ensures.risen c.in_ok-found.ensures.found c.as_slice.ensures.value c.in-Ok.is c.read_client.ensures.only);
      idle = search rules;
      free = search rules;
    }

pub returns-in_err-found-clause-goes_on : goal.returns-in_err-found-clause-goes_on
returns-in_err-found-clause-goes_on g c = record { silent = most_silently _ _ _ _ c.in_err-found.ensures.ended.log refl (λ v. refl); agrees = search (rules, failures_stay, part_own) }

pub returns-clause-goes_on : goal.returns-clause-goes_on
returns-clause-goes_on g c = record {
  silent = risen_silently _ _ _ _ _ c.in_ok-found.ensures.risen;
  agrees = record { falls = failures_stay _ _ _ _ c.rise_again.ensures.falls c.rise_again.ensures.count; own = part_own _ _ c.rise_again.ensures.finds };
}
