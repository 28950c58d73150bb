use Rattle.std.proofs.Common.{◌∙◌, rules}
use Rattle.std.proofs.lemmas.Result.{on_ok_weaker}
use Rattle.actor_steps.proofs.EndFacts.{failures_stay}
use Rattle.node_loop.proofs.OpeningFacts.{staying_up}
use Rattle.node_loop.proofs.SentFacts.{said_is_sent, say_is_told}
use Rattle.node_loop.proofs.UnsentFacts.{said_as_far, fails_for_memory}
use Rattle.node_loop.proofs.attending.say.Goals as goal

pub returns-clause-turns : goal.returns-clause-turns
returns-clause-turns g c =
    let added = c.in_ok-said.ensures.logged in
    let replies = c.deref.ensures.value ∙ c.speak-replies.ensures.replies in
    let said = said_is_sent _ c.args.core.now c.node.result c.number.result c.in_ok-said.said _ _ c.deref.result.now c.requires c.node.ensures c.number.ensures replies in
    record {
      goes = search (rules, staying_up, failures_stay);
      taken = on_ok_weaker c.send_all.result (λ sent. record { idle = search rules; sent = say_is_told _ _ _ _ _ _ _ added said sent }) c.send_all.ensures.sent;
      ended = fails_for_memory c.send_all.result _ _ c.send_all.ensures.memory c.send_all.ensures.faulted
          (λ some. record { which = search rules; sent = said_as_far _ _ _ _ _ _ _ added said some; cause = record { ends = λ start since. tt } });
    }
