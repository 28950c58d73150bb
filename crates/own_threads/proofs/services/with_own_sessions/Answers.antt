use Rattle.std.proofs.Common.{map, subst}
use Rattle.std.specs.Prelude.{IfOk}
use Rattle.own_threads.specs.Ends.{AreNodeEnds, AreClientEnds}
use Rattle.own_threads.proofs.services.with_own_sessions.Goals as goal

-- the tasks began as was handed in
pub returns-clause-nodes : goal.returns-clause-nodes
returns-clause-nodes g c =
    let log = g.N.Recorder.own_log in
    let began = g.N.ActorRecorder.beginning in
    subst (λ bs. IfOk c.run_threads.result (λ end. AreNodeEnds bs (map (λ e. (log e.recorder, began e.recorder, e.fault)) end.nodes.items))) c.in_ok-nodes.ensures.begun c.run_threads.ensures.nodes

pub returns-clause-clients : goal.returns-clause-clients
returns-clause-clients g c =
    let log = g.C.Recorder.own_log in
    let began = g.C.ActorRecorder.beginning in
    let finds = g.S.StableRecord.finds in
    subst (λ bs. IfOk c.run_threads.result (λ end. AreClientEnds bs (map (λ e. (log e.recorder, began e.recorder, e.fault, finds e.stable)) end.clients.items))) c.in_ok-clients.ensures.begun c.run_threads.ensures.clients
