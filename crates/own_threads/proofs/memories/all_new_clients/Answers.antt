use Rattle.std.proofs.Common.{rules, ◌≡◌, ◌+◌, ◌∷◌, [], length, sym, ap, subst, ◌∙◌, arith}
use Rattle.own_threads.specs.Beginnings.{unwritten}
use Rattle.own_threads.specs.Memories.{new_client_log}
use Rattle.own_threads.specs.Tasks.{IsClientTask}
use Rattle.own_threads.proofs.Lists.{more_clients, one_longer}
use Rattle.own_threads.proofs.Places.{one_more_numbered}
use Rattle.own_threads.proofs.memories.all_new_clients.Goals as goal

pub loop-place-preserved : goal.loop-place-preserved
loop-place-preserved c =
    let b = c.args.ballots in
    let all = c.loop-place.all.items in
    let start = c.in_ok-new_client.field-0 in
    let more = c.in_ok-push.ensures.items in
    let number : c.in-Some.client ≡ c.loop-place.place + 1 = search rules in
    let count : 1 + length all ≡ c.in-Some.client = omega (arith, number, c.loop-place.invariant.count) in
    record {
      count = one_longer all c.push.new.self.items start c.loop-place.place more c.loop-place.invariant.count;
      logs = one_more_numbered (λ s. unwritten s.recorder) (λ n. unwritten (new_client_log b n)) all c.push.new.self.items start c.loop-place.place c.loop-place.invariant.logs more
          (ap unwritten c.in_ok-new_client.ensures.log ∙ ap (λ n. unwritten (new_client_log b n)) number);
      ready = more_clients (λ s. (s.recorder, s.stable ∷ [])) b 1 all c.push.new.self.items start c.loop-place.invariant.ready
          (subst (λ n. IsClientTask n b start.recorder (start.stable ∷ [])) (sym count) c.in_ok-new_client.ensures.ready) more;
    }
