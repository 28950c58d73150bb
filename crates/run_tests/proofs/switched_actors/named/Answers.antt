use denote.Param.Send.{sendable}
use denote.Param.Sent.{Sends}
use Rattle.book_recorders.proofs.Sending.{book_send}
use Rattle.run_tests.proofs.switched_actors.named.Goals as goal

-- the world's policies may go to another thread, as their boxes say
pub under_lock-book-requires-send-K : goal.under_lock-book-requires-send-K
under_lock-book-requires-send-K g c κs within = let policies : Sends g.dyn-1.0 = g.dyn-1.2 in search (sendable, book_send) depth 20
