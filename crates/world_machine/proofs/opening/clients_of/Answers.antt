use Rattle.std.proofs.Common.{◌+◌, ◌∷◌, [], sym, ap, ◌∙◌, subst, length, map}
use Rattle.std.proofs.lemmas.List.{length-append}
use Rattle.world_model.specs.Openings.{down_client}
use Rattle.world_machine.specs.Machines.{client_part, AreClients}
use Rattle.world_machine.proofs.OpeningFacts.{map-more, clients-more}
use Rattle.world_machine.proofs.opening.clients_of.Goals as goal

pub loop-place-preserved : goal.loop-place-preserved
loop-place-preserved c =
    let b = c.args.ballots in
    let attempts = c.args.attempts.now in
    let ks = c.loop-place.clients.items in
    let k = c.opened-client.result in
    let i = c.loop-place.place in
    let now = c.in_ok-push.ensures.items in
    let old = c.loop-place.invariant in
    record {
      parts = ap (map client_part) now ∙ map-more client_part down_client ks attempts i k 0 old.parts c.loop-place-test.true c.opened-client.ensures.down;
      order = subst (AreClients b) (sym now) (clients-more b ks k old.order (c.opened-client.ensures.number ∙ c.client_at.ensures ∙ ap (λ n. n + 1) (sym old.count)) c.opened-client.ensures.ballots);
      count = ap length now ∙ length-append ks (k ∷ []) ∙ ap (λ n. n + 1) old.count;
    }
