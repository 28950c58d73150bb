use Rattle.std.proofs.Common.{◌≡◌, length, sym, ◌∙◌}
use Rattle.std.specs.Vec.Iter.{into_iter_items}
use Rattle.node_threads.specs.Sessions.{IsSessionEnd}
use Rattle.node_threads.proofs.Lists.{all_and_one}
use Rattle.node_threads.proofs.Promises.{one_more_started, all_started}
use Rattle.node_threads.proofs.session_lists.end_all.Goals as goal

pub loop-session-preserved : goal.loop-session-preserved
loop-session-preserved g c =
    let before = c.loop-session.invariant in
    let at = c.in-Some.ensures.steps.0 in
    let is = c.in-Ok.ensures.items in
    let ended = c.end_session.result in record {
      can = tt;
      finite = tt;
      clients = one_more_started (λ e. e.client) (λ s. s.client) c.loop-session.ends.items c.push.new.self.items _ _ ended c.in-Some.session _ before.clients at is c.end_session.ensures.client;
      tables = all_and_one (λ e. e.berth.table ≡ g.B.BookName.table) c.loop-session.ends.items c.push.new.self.items ended before.tables c.end_session.ensures.table is;
      each = all_and_one (λ e. IsSessionEnd e.client e.fault e.berth (g.S.StableRecord.finds e.stable)) c.loop-session.ends.items c.push.new.self.items ended before.each c.end_session.ensures.end is;
    }

pub returns-clause-clients : goal.returns-clause-clients
returns-clause-clients g c =
    let none : length (into_iter_items c.loop-session.session-iterator) ≡ 0 = sym c.loop-session.session-iterator.rest.ok.0 ∙ c.in-None.ensures.steps.0 in
    all_started (λ e. e.client) (λ s. s.client) c.loop-session.ends.items _ _ c.loop-session.invariant.clients none
