use Rattle.std.proofs.Common.{◌∙◌, ◌++◌, ◌∷◌, [], List, sym, ap}
use Rattle.lock_messages.specs.declared.ids.Actor.{Actor}
use Rattle.lock_messages.specs.declared.ids.Actor.TheVariants as actor
use Rattle.event_recorders.specs.declared.faults.RunFault.{RunFault}
use Rattle.node_threads.proofs.Telling.{faulty_seen, well_seen}
use Rattle.node_threads.proofs.session_lists.session_faults.Goals as goal
use Rattle.node_threads.proofs.session_lists.session_faults.Goals.{in-Some+in-Ok, in_default}

pub loop-end-preserved : goal.loop-end-preserved
loop-end-preserved g c =
    let ends = c.args.ends.now in
    let i = c.loop-end.end-index in
    let e = c.end-item.result in
    elim c.match-end.branch [
      | in-Some+in-Ok w ↦
          ap (λ v. v.items) w.faults-is ∙ w.in-Ok.ensures.items
          ∙ ap (λ (ps : List (Actor × RunFault)). ps ++ (actor.Client e.client, w.in-Some.fault) ∷ []) c.loop-end.invariant
          ∙ sym (faulty_seen (λ x. x.client) (λ x. x.fault) ends i e e w.in-Some.fault c.loop-end-test.true c.end-item.is w.in-Some.is)
      | in_default w ↦
          ap (λ v. v.items) w.faults-is ∙ c.loop-end.invariant ∙ sym (well_seen (λ x. x.client) (λ x. x.fault) ends i e e c.loop-end-test.true c.end-item.is w.in_default.is)
    ]
