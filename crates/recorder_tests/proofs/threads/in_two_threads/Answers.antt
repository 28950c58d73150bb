use denote.Param.Send.{sendable}
use denote.Param.Sent.{Sends}
use Rattle.book_recorders.proofs.Sending.{book_send}
use Rattle.recorder_tests.proofs.threads.in_two_threads.Goals as goal

-- the world's policies may go to another thread, as their boxes say
pub whole-requires-send-K : goal.whole-requires-send-K
whole-requires-send-K g c κs = let policies : Sends g.dyn-1.0 = g.dyn-1.2 in search (sendable, book_send) depth 20
