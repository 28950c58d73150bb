use Rattle.std.proofs.Common.{◌≡◌, map, All}
use Rattle.std.specs.Prelude.{IfNone}
use Rattle.std.specs.Vec.Iter.{into_iter_items}
use Rattle.lock_session.specs.Sessions.{IsResting}
use Rattle.node_threads.specs.Sessions.{IsSessionEnd}
use Rattle.node_threads.specs.Tasks.{IsClientBerth}
use Rattle.node_threads.proofs.Sorting.{Spread}
use Rattle.node_threads.proofs.session_lists.begin_all.Given as goal

-- the tasks that are left; each client of those before has a session or ended
abbrev pub invariant-loop-task : goal.invariant-loop-task
invariant-loop-task g l = record {
  can : (goal.iterator-loop-task g).can_next l.task-iterator;
  finite : (goal.iterator-loop-task g).is_finite l.task-iterator;
  tasks : All (λ t. IsClientBerth g.B.BookName.table t.client l.fn.ballots t.berth (g.S.StableRecord.finds t.stable)) (into_iter_items l.task-iterator);
  rest : All IsResting l.sessions.items;
  ballots : All (λ s. s.ballots ≡ l.fn.ballots) l.sessions.items;
  all : Spread (map (λ t. t.client) l.fn.tasks.items) (map (λ s. s.client) l.sessions.items) (map (λ e. e.client) l.ends.items) (map (λ t. t.client) (into_iter_items l.task-iterator));
  told : All (λ e. IfNone e.fault ⊥) l.ends.items;
  tables : All (λ e. e.berth.table ≡ g.B.BookName.table) l.ends.items;
  each : All (λ e. IsSessionEnd e.client e.fault e.berth (g.S.StableRecord.finds e.stable)) l.ends.items;
}
