use Rattle.std.proofs.Common.{length, sym, subst}
use Rattle.std.specs.Prelude.{IfOk}
use Rattle.node_threads.specs.SessionEnds.{AreSessionEnds}
use Rattle.node_threads.proofs.services.named_service.Goals as goal

pub returns-clause-clients : goal.returns-clause-clients
returns-clause-clients g c =
    subst (λ b. IfOk c.serve_threads-served.result (λ served. AreSessionEnds g.S.StableRecord.finds b (length c.args.tasks.clients.items) served.clients.items)) (sym c.requires.table) c.serve_threads-served.ensures.clients
