use Rattle.std.proofs.Common.{◌≡◌, ◌++◌, ◌⊎◌, inl, inr, map, length, sym, ◌∙◌, ap, subst}
use Rattle.std.specs.List.{All, range_with_len}
use Rattle.std.proofs.lemmas.List.Elements.{All-weaker}
use Rattle.lock_model.specs.Decisions.{Among}
use Rattle.lock_model.proofs.GrantFacts.{among-right, among-left}
use Rattle.lock_session.specs.Sessions.{IsResting}
use Rattle.node_threads.specs.Sessions.{IsSessionEnd}
use Rattle.node_threads.proofs.Amongst.{all_among}
use Rattle.node_threads.proofs.Lists.{written_back}
use Rattle.node_threads.proofs.serving.work_with.Goals as goal

-- the sessions rest before the work with them
pub work_each-requires-after_bounds : goal.work_each-requires-after_bounds
work_each-requires-after_bounds g c κs within = subst (All IsResting) (sym c.as_mut_slice.ensures.value) c.in_ok-sessions.ensures.rest

-- each client has an end: of its session, or it did not rise
pub in_order-requires-clause-whole : goal.in_order-requires-clause-whole
in_order-requires-clause-whole g c =
    let sessions = map (λ s. s.client) c.in_ok-sessions.sessions.items in
    let fallen = map (λ e. e.client) c.in_ok-sessions.fallen.items in
    let long : length c.work_each.new.sessions ≡ length c.in_ok-sessions.sessions.items = c.work_each.auto.sessions ∙ ap length c.as_mut_slice.ensures.value in
    let back = written_back c.work_each.new.sessions c.in_ok-sessions.sessions.items c.in_ok-sessions.sessions.len long c.in_ok-sessions.sessions.ok.0 in
    let same = ap (map (λ s. s.client)) back ∙ c.work_each.ensures ∙ ap (map (λ s. s.client)) c.as_mut_slice.ensures.value in
    let is : map (λ e. e.client) c.in_ok-ends.ends.items ≡ fallen ++ sessions = c.in_ok-ends.ensures.clients ∙ ap (λ l. fallen ++ l) same in
    let count = c.requires.all_clients ∙ ap (range_with_len 1) (sym (c.len-count.ensures ∙ c.args.clients.ok.0)) in
    subst (λ l. All (λ n. Among n l) (range_with_len 1 c.len-count.result)) (sym is)
    (subst (All (λ n. Among n (fallen ++ sessions))) count
    (All-weaker (λ n. Among n sessions ⊎ Among n fallen) (λ n. Among n (fallen ++ sessions)) (λ n h. elim h [ inl one ↦ among-right n fallen sessions one | inr other ↦ among-left n fallen sessions other ])
    (map (λ t. t.client) c.args.clients.items) c.in_ok-sessions.ensures.all))

pub returns-clause-ends : goal.returns-clause-ends
returns-clause-ends g c =
    let ends = c.in_ok-ends.ends.items in
    let ordered = c.in_ok-ends-2.ends.items in
    let those = c.in_ok-ends-2.ensures.those in
    record {
      clients = c.in_ok-ends-2.ensures.clients ∙ ap (range_with_len 1) (c.len-count.ensures ∙ c.args.clients.ok.0);
      tables = All-weaker (λ e. Among e ends) (λ e. e.berth.table ≡ g.B.BookName.table) (λ e there. all_among (λ x. x.berth.table ≡ g.B.BookName.table) e ends there c.in_ok-ends.ensures.tables) ordered those;
      each = All-weaker (λ e. Among e ends) (λ e. IsSessionEnd e.client e.fault e.berth (g.S.StableRecord.finds e.stable))
          (λ e there. all_among (λ x. IsSessionEnd x.client x.fault x.berth (g.S.StableRecord.finds x.stable)) e ends there c.in_ok-ends.ensures.ends) ordered those;
    }
