use Rattle.std.proofs.Common.{◌≡◌, ◌++◌, map, All}
use Rattle.std.specs.Vec.Iter.{into_iter_items}
use Rattle.node_threads.specs.Sessions.{IsSessionEnd}
use Rattle.node_threads.proofs.session_lists.end_all.Given as goal

-- the sessions that are left; those before have ended
abbrev pub invariant-loop-session : goal.invariant-loop-session
invariant-loop-session g l = record {
  can : (goal.iterator-loop-session g).can_next l.session-iterator;
  finite : (goal.iterator-loop-session g).is_finite l.session-iterator;
  clients : map (λ e. e.client) l.ends.items ++ map (λ s. s.client) (into_iter_items l.session-iterator) ≡ map (λ e. e.client) l.fn.ends.items ++ map (λ s. s.client) l.fn.sessions.items;
  tables : All (λ e. e.berth.table ≡ g.B.BookName.table) l.ends.items;
  each : All (λ e. IsSessionEnd e.client e.fault e.berth (g.S.StableRecord.finds e.stable)) l.ends.items;
}
