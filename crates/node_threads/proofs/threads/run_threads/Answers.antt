use denote.Param.Send.{sendable}
use Rattle.node_threads.proofs.threads.run_threads.Goals as goal

-- the bounds of the function, and what it is given
pub scoped-requires : goal.scoped-requires
scoped-requires g c =
    let name = c.type_bounds.send-B in
    let book = c.type_bounds.send-K in
    let handle = c.type_bounds.send-R in
    let gate = c.type_bounds.sync-G in
    record { at = λ s. ((search sendable, search sendable, search sendable, search sendable), (c.requires.nodes, (c.requires.clients, search sendable))) }
