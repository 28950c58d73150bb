use denote.Param.Send.{sendable}
use Rattle.own_threads.proofs.threads.fn.run_threads.scope+FnOnce.call_once.Goals as goal

-- what the closure owes, and of which types it may send what it has
pub scope-requires : goal.scope-requires
scope-requires g c =
    let owed = c.requires.1.1.1.1.1 in
    let node = owed.0.0 in
    let client = owed.0.1 in
    let stable = owed.0.2 in
    let handle = owed.0.3 in
    let work = owed.0.4 in
    (search sendable, (search sendable, (search sendable, (search sendable, (search sendable, (owed.0, (owed.1.0, owed.1.1.0)))))))
