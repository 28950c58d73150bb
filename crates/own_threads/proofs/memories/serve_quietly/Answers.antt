use Rattle.std.proofs.Common.{◌≡◌, ◌≤◌, length, map, sym, ap, subst, ◌∙◌}
use Rattle.std.specs.List.{All}
use Rattle.std.specs.Prelude.{IfSome}
use Rattle.std.proofs.lemmas.List.{length-map}
use Rattle.lock_messages.specs.declared.ids.TheConstants.{MAX_CLIENTS}
use Rattle.node_loop.specs.Standing.{IsNodeFault}
use Rattle.own_threads.specs.Beginnings.{unwritten}
use Rattle.own_threads.specs.Memories.{new_client_log, opened_log}
use Rattle.own_threads.specs.Tasks.{with_found}
use Rattle.own_threads.proofs.Places.{as_long, as_many}
use Rattle.own_threads.proofs.Promises.{image_of_image, node_faults}
use Rattle.own_threads.proofs.memories.serve_quietly.Goals as goal

pub with_own_sessions-requires-clause-few_clients : goal.with_own_sessions-requires-clause-few_clients
with_own_sessions-requires-clause-few_clients g c κs within =
    let many = as_many (λ s. unwritten s.recorder) (λ n. unwritten (new_client_log c.args.ballots n)) c.in-Ok.starts.items c.args.clients c.in-Ok.ensures.logs in
    subst (λ n. n ≤ MAX_CLIENTS) (sym many) c.requires.few_clients

pub returns-clause-count : goal.returns-clause-count
returns-clause-count g c =
    let ends = c.in_ok-end.end.nodes.items in
    let starts = c.in_ok-nodes.nodes.items in
    let started : length starts ≡ length c.args.nodes.items =
    as_long (λ s. with_found s.recorder ((goal.StableRecord-dyn g (s.stable.vtable, s.stable.value)).finds s.stable.value))
    (λ n. with_found (opened_log (g.K.OwnActor.actor n.actor) (g.K.OwnActor.ballots n.actor) (g.K.OwnActor.part n.actor)) ((goal.StableRecord-dyn g (n.stable.vtable, n.stable.value)).finds n.stable.value)) starts c.args.nodes.items c.in_ok-nodes.ensures.same in
    let ended : length ends ≡ length starts =
    as_long (λ e. unwritten e.recorder) (λ s. unwritten s.recorder) ends starts (sym (image_of_image (λ e. (e.recorder, unwritten e.recorder, e.fault)) (λ p. p.1) ends) ∙ c.in_ok-end.ensures.nodes.began) in
    ap length c.in_ok-nodes-2.ensures.faults ∙ length-map ends (λ e. e.fault) ∙ ended ∙ started

pub returns-clause-faults : goal.returns-clause-faults
returns-clause-faults g c =
    subst (All (λ f. IfSome f IsNodeFault)) (sym c.in_ok-nodes-2.ensures.faults) (node_faults (λ e. e.recorder) (λ e. unwritten e.recorder) (λ e. e.fault) c.in_ok-end.end.nodes.items c.in_ok-end.ensures.nodes.each)
