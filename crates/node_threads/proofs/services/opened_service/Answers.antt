use Rattle.std.proofs.Common.{length, subst}
use Rattle.std.specs.Prelude.{IfOk}
use Rattle.history_book.specs.Books.{BookValue}
use Rattle.node_threads.specs.SessionEnds.{AreSessionEnds}
use Rattle.node_threads.proofs.services.opened_service.Goals as goal

pub named_service-book-requires-clause-nodes : goal.named_service-book-requires-clause-nodes
named_service-book-requires-clause-nodes g c = λ κ outlives. rw c.of-book.ensures c.requires.nodes

pub named_service-book-requires-clause-clients : goal.named_service-book-requires-clause-clients
named_service-book-requires-clause-clients g c = λ κ outlives. rw c.of-book.ensures c.requires.clients

pub returns-clause-clients : goal.returns-clause-clients
returns-clause-clients g c =
    subst (λ (b : BookValue). IfOk c.named_service-book.result.1 (λ served. AreSessionEnds g.S.StableRecord.finds b.table (length c.args.tasks.clients.items) served.clients.items)) c.of-book.ensures
    c.named_service-book.ensures.clients
