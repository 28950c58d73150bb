use Rattle.std.proofs.Common.{rules, ap, ◌∙◌}
use Rattle.std.proofs.lemmas.Result.{err_from_is_err_and, on_ok_weaker, IfErr-weaker}
use Rattle.actor_steps.proofs.SendingFacts.{follows_from}
use Rattle.actor_steps.proofs.EndFacts.{failures_on}
use Rattle.client_loop.specs.Visits.{Visits, use_of, visits_of}
use Rattle.client_loop.proofs.SentFacts.{unless_none, unless_from}
use Rattle.client_loop.proofs.BeginFacts.{placed_on, beginning_client, begins_no_more, more_then_none}
use Rattle.client_loop.proofs.EndFacts.{attempt_ends_all, failures_same}
use Rattle.client_loop.proofs.NudgeFacts.{attempt_has_none}
use Rattle.client_loop.proofs.OutcomeFacts.{same_behind, enters_use, ends_attempts}
use Rattle.client_loop.proofs.entering.enter.Goals as goal

pub returns-in_err-attempt : goal.returns-in_err-attempt
returns-in_err-attempt g c =
    let p = err_from_is_err_and c.from_residual.result c.from_residual.ensures.1 in
    rw (p.1, p.2) (record {
      attempts = record {
        client = beginning_client (use_of c.args.wish.now) _ _ c.attempt.ensures.goes_on.silent.begins;
        most = search rules;
        begins = search rules;
        softened = search rules;
        falls = search rules;
        own = search rules;
      };
      attempted = tt;
      entered = search rules;
      taken_back = search rules;
      ended = record {
        outside = search rules;
        sent = search (rules, unless_none);
        cause = search rules;
        last = search (rules, attempt_has_none);
        rests = λ one. absurd (attempt_ends_all _ c.in_err-attempt.ensures.ended.which one);
      };
    })

pub ask_and_enter-requires-clause-placed : goal.ask_and_enter-requires-clause-placed
ask_and_enter-requires-clause-placed g c =
    placed_on (use_of c.args.wish.now) c.args.wish.now.place (g.R.Recorder.own_log c.args.recorder.now) (g.R.Recorder.own_log c.attempt.new.recorder) c.attempt.ensures.goes_on.silent.begins c.requires.placed

pub returns : goal.returns
returns g c =
    let free = c.in_ok-attempt.ensures.asks.asks.free in
    let before = c.attempt.ensures.goes_on.silent in
    let asked = c.ask_and_enter.ensures in
    let behind = same_behind c.ask_and_enter.result _ _ (λ is. (asked.entered is).visits) asked.outside in
    record {
      attempts = record {
        client = beginning_client (use_of c.args.wish.now) _ _ (begins_no_more _ _ _ _ before.begins asked.goes_on.begins);
        most = search rules;
        begins = search (rules, begins_no_more);
        softened = behind.1 ∙ before.softened;
        falls = search (rules, failures_same, failures_on);
        own = search rules;
      };
      attempted = on_ok_weaker c.ask_and_enter.result (λ sent. record {
        begun = behind.0 ∙ c.in_ok-attempt.ensures.asks.begun.begun;
        more = more_then_none _ _ _ c.in_ok-attempt.ensures.asks.begun.more asked.goes_on.begins;
        free = free;
        sent = follows_from _ _ _ _ _ before.silent sent;
      }) asked.sent.all;
      entered = λ is. record {
        entered = enters_use (use_of c.args.wish.now) (visits_of (g.R.Recorder.own_log c.args.recorder.now)) (visits_of (g.R.Recorder.own_log c.attempt.new.recorder)) (visits_of (g.R.Recorder.own_log c.ask_and_enter.new.recorder)) (asked.entered is).visits c.in_ok-attempt.ensures.asks.begun.begun before.entered;
        may = (asked.entered is).may;
        ticket = rw ((asked.entered is).ticket) c.in_ok-attempt.ensures.asks.begun.ticket;
        inside = (asked.entered is).inside;
      };
      taken_back = λ is. (
        (asked.stopped is).waits,
        record {
          outside = ap (λ (v : Visits). v.entered) (asked.outside (λ inside. let both = is in let other = inside in cc)) ∙ before.entered;
          busy = (asked.stopped is).busy;
          released = (asked.stopped is).released;
          rests = record { stands = (asked.stopped is).rests.stands; idle = (asked.stopped is).rests.idle; free = free };
        },
      );
      ended = ends_attempts c.ask_and_enter.result _ _ (λ no. ap (λ (v : Visits). v.entered) (asked.outside no) ∙ before.entered)
          (IfErr-weaker c.ask_and_enter.result _ _ (λ f sent. unless_from f _ _ _ _ _ before.silent sent) asked.sent.faulted) free asked.ended;
    }
