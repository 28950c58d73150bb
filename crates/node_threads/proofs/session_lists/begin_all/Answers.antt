use Rattle.std.proofs.Common.{◌≡◌, length, sym, ◌∙◌, ap, subst, map, All}
use Rattle.std.specs.Prelude.{IfNone}
use Rattle.std.specs.Vec.Iter.{into_iter_items}
use Rattle.std.proofs.lemmas.List.{nil_from_length}
use Rattle.std.proofs.lemmas.List.Elements.{All-nil}
use Rattle.lock_session.specs.Sessions.{IsResting}
use Rattle.node_threads.specs.Sessions.{IsSessionEnd}
use Rattle.node_threads.specs.Tasks.{IsClientBerth}
use Rattle.node_threads.proofs.Lists.{all_and_one}
use Rattle.node_threads.proofs.Sorting.{spread_first, to_sessions, to_ends, spread}
use Rattle.node_threads.proofs.Taking.{first_of, rest_of}
use Rattle.node_threads.proofs.session_lists.begin_all.Goals as goal

pub loop-task-init : goal.loop-task-init
loop-task-init g c =
    let gives = c.into_iter-task-iterator.ensures.into_iter_gives.0 in
    let none = c.new-sessions.ensures.items in
    let no_ends = c.new-ends.ensures.items in record {
      can = tt;
      finite = tt;
      tasks = subst (All (λ t. IsClientBerth g.B.BookName.table t.client c.args.ballots t.berth (g.S.StableRecord.finds t.stable))) (sym gives) c.requires.tasks;
      rest = subst (All IsResting) (sym none) (All-nil IsResting);
      ballots = subst (All (λ s. s.ballots ≡ c.args.ballots)) (sym none) (All-nil (λ s. s.ballots ≡ c.args.ballots));
      all = spread_first (λ t. t.client) _ _ _ _ gives;
      told = subst (All (λ e. IfNone e.fault ⊥)) (sym no_ends) (All-nil (λ e. IfNone e.fault ⊥));
      tables = subst (All (λ e. e.berth.table ≡ g.B.BookName.table)) (sym no_ends) (All-nil (λ e. e.berth.table ≡ g.B.BookName.table));
      each = subst (All (λ e. IsSessionEnd e.client e.fault e.berth (g.S.StableRecord.finds e.stable))) (sym no_ends) (All-nil (λ e. IsSessionEnd e.client e.fault e.berth (g.S.StableRecord.finds e.stable)));
    }

pub begin_session-requires : goal.begin_session-requires
begin_session-requires g c =
    first_of c.in-Some.task (λ t. IsClientBerth g.B.BookName.table t.client c.args.ballots t.berth (g.S.StableRecord.finds t.stable)) _ _ c.in-Some.ensures.steps.0 c.loop-task.invariant.tasks

pub loop-task-preserved-in-Ok-push : goal.loop-task-preserved-in-Ok-push
loop-task-preserved-in-Ok-push g c =
    let before = c.loop-task.invariant in
    let at = c.in-Some.ensures.steps.0 in
    let is = c.in-Ok-push.ensures.items in record {
      can = tt;
      finite = tt;
      tasks = rest_of c.in-Some.task (λ t. IsClientBerth g.B.BookName.table t.client c.args.ballots t.berth (g.S.StableRecord.finds t.stable)) _ _ at before.tasks;
      rest = all_and_one IsResting c.loop-task.sessions.items c.push.new.self.items c.in-Ok.session before.rest c.in-Ok.ensures.rests is;
      ballots = all_and_one (λ s. s.ballots ≡ c.args.ballots) c.loop-task.sessions.items c.push.new.self.items c.in-Ok.session before.ballots c.in-Ok.ensures.ballots is;
      all = to_sessions (λ s. s.client) (λ t. t.client) c.loop-task.sessions.items c.push.new.self.items c.in-Ok.session _ _ _ c.in-Some.task _ is at c.in-Ok.ensures.client before.all;
      told = before.told;
      tables = before.tables;
      each = before.each;
    }

pub loop-task-preserved : goal.loop-task-preserved
loop-task-preserved g c =
    let before = c.loop-task.invariant in
    let at = c.in-Some.ensures.steps.0 in
    let is = c.in-Ok-push-2.ensures.items in record {
      can = tt;
      finite = tt;
      tasks = rest_of c.in-Some.task (λ t. IsClientBerth g.B.BookName.table t.client c.args.ballots t.berth (g.S.StableRecord.finds t.stable)) _ _ at before.tasks;
      rest = before.rest;
      ballots = before.ballots;
      all = to_ends (λ e. e.client) (λ t. t.client) _ c.loop-task.ends.items c.push-in-Err.new.self.items c.in-Err.end _ _ c.in-Some.task _ is at c.in-Err.ensures.same before.all;
      told = all_and_one (λ e. IfNone e.fault ⊥) c.loop-task.ends.items c.push-in-Err.new.self.items c.in-Err.end before.told c.in-Err.ensures.told is;
      tables = all_and_one (λ e. e.berth.table ≡ g.B.BookName.table) c.loop-task.ends.items c.push-in-Err.new.self.items c.in-Err.end before.tables c.in-Err.ensures.table is;
      each = all_and_one (λ e. IsSessionEnd e.client e.fault e.berth (g.S.StableRecord.finds e.stable)) c.loop-task.ends.items c.push-in-Err.new.self.items c.in-Err.end before.each c.in-Err.ensures.end is;
    }

pub returns-clause-all : goal.returns-clause-all
returns-clause-all g c =
    let none : length (into_iter_items c.loop-task.task-iterator) ≡ 0 = sym c.loop-task.task-iterator.rest.ok.0 ∙ c.in-None.ensures.steps.0 in
    spread _ _ _ _ (ap (map (λ t. t.client)) (nil_from_length (into_iter_items c.loop-task.task-iterator) none)) c.loop-task.invariant.all
