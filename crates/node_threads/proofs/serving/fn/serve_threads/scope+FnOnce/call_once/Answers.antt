use denote.Param.Send.{sendable}
use Rattle.node_threads.proofs.serving.fn.serve_threads.scope+FnOnce.call_once.Goals as goal

-- what the closure owes, and of which types it may send what it has
pub scope-requires : goal.scope-requires
scope-requires g c =
    let owed = c.requires.1.1.1.1.1 in
    let name = owed.0.0 in
    let book = owed.0.1 in
    let handle = owed.0.2 in
    let shared = owed.0.3 in
    let stable = owed.0.4 in
    let work = owed.0.5 in
    (search sendable, (search sendable, (search sendable, (search sendable, (search sendable, (search sendable, (owed.0, (owed.1.0, (owed.1.1.0, (owed.1.1.1.0, owed.1.1.1.1.0))))))))))
