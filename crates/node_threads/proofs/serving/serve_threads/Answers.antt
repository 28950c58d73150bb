use denote.Param.Send.{sendable}
use Rattle.node_threads.proofs.serving.serve_threads.Goals as goal

-- the bounds of the function, and what it is given
pub scoped-requires : goal.scoped-requires
scoped-requires g c =
    let name = c.type_bounds.send-B in
    let book = c.type_bounds.send-K in
    let stable = c.type_bounds.send-S in
    let handle = c.type_bounds.send-R in
    let shared = c.type_bounds.sync-R in
    let work = c.type_bounds.sync-J in
    record { at = λ s. ((search sendable, search sendable, search sendable, search sendable, search sendable, search sendable), (c.requires.nodes, (c.requires.few, (c.requires.clients, (c.requires.all_clients, search sendable))))) }
