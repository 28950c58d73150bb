use denote.Param.Send.{sendable}
use Rattle.own_threads.proofs.threads.run_threads.Goals as goal

-- the bounds of the function, and what it is given
pub scoped-requires : goal.scoped-requires
scoped-requires g c =
    let node = c.type_bounds.send-N in
    let client = c.type_bounds.send-C in
    let stable = c.type_bounds.send-S in
    let handle = c.type_bounds.send-R in
    let work = c.type_bounds.sync-J in
    record { at = λ s. ((search sendable, search sendable, search sendable, search sendable, search sendable), (c.requires.nodes, (c.requires.clients, search sendable))) }
