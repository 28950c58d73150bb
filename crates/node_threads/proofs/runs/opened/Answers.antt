use Rattle.node_threads.proofs.runs.opened.Goals as goal

pub named-book-requires-clause-nodes : goal.named-book-requires-clause-nodes
named-book-requires-clause-nodes g c = λ κ outlives. rw c.of-book.ensures c.requires.nodes
