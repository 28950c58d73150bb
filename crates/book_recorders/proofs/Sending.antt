-- A book may go to another thread where the policies of its nodes may. A search for this at the book gives
-- up at its limits, so it is made from the inside out.
use denote.RattleType.{RattleType}
use denote.Param.Object.{Ghosts, table_of}
use denote.Param.Sent.{Sends}
use denote.Param.Send.{IsSend, sendable}
use Rattle.std.proofs.Crossing.{crosses, dyn_box_send}
use Rattle.lock_messages.proofs.ids.NodeId.TheSendSync as node_id
use Rattle.lock_messages.proofs.ids.Actor.TheSendSync as actor
use Rattle.lock_messages.proofs.messages.Message.TheSendSync as message
use Rattle.stable_record.proofs.node_records.NodeRecord.TheSendSync as node_record
use Rattle.stable_record.proofs.resource_index.ResourceIndex.TheSendSync as index
use Rattle.voter_core.proofs.phases.Phase.TheSendSync as phase
use Rattle.vote_weights.proofs.lists.BallotList.TheSendSync as ballots
use Rattle.world_actors.proofs.clients.WorldClient.TheSendSync as client
use Rattle.world_model.proofs.events.Event.TheSendSync as event
use Rattle.world_model.proofs.events.Effect.TheSendSync as effect
use Rattle.berth_seats.proofs.seats.BookSeat.TheSendSync as seat
use Rattle.voter_core.specs.contracts.voters.NodeCore as core
use Rattle.world_actors.specs.contracts.nodes.WorldNode as node
use Rattle.world_machine.specs.contracts.world.World as world
use Rattle.history_book.specs.contracts.books.Book as book

-- T and k are the table of the policies behind a node's box
core_send : (T : RattleType) (k : Ghosts T.Denot) → Sends (table_of T.Denot k) → IsSend T → IsSend (core.the_row T k)
core_send T k s t = search (sendable, crosses, dyn_box_send, node_id.the_send, message.the_send, node_record.the_field_send, index.the_send, phase.the_field_send) depth 20

node_send : (T : RattleType) (k : Ghosts T.Denot) → Sends (table_of T.Denot k) → IsSend T → IsSend (node.the_row T k)
node_send T k s t = let inner = core_send T k s t in search (sendable, crosses, node_record.the_field_send) depth 20

world_send : (T : RattleType) (k : Ghosts T.Denot) → Sends (table_of T.Denot k) → IsSend T → IsSend (world.the_row T k)
world_send T k s t = let inner = node_send T k s t in search (sendable, crosses, ballots.the_send, client.the_send, message.the_send) depth 20

-- a function that names `Book` where `Send` is asked takes this, with what it knows of its own table
pub book_send : (T : RattleType) (k : Ghosts T.Denot) → Sends (table_of T.Denot k) → IsSend T → IsSend (book.the_row T k)
book_send T k s t = let inner = world_send T k s t in search (sendable, crosses, actor.the_send, event.the_send, effect.the_send, seat.the_send) depth 20
