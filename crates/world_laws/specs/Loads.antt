-- How many messages a way in may say. The statements are proved as contracts of functions of `laws`.
use Rattle.std.specs.Prelude.{ℕ, ◌+◌, ◌*◌, ◌≤◌, Bool, length}
use Rattle.lock_messages.specs.declared.ids.TheConstants.{MAX_NODES, MAX_CLIENTS}
use Rattle.lock_model.specs.Ballots.{node_count}
use Rattle.world_model.specs.declared.TheConstants.{MAX_MESSAGES}
use Rattle.world_model.specs.declared.exact.ExactWorld.{ExactWorld}
use Rattle.world_model.specs.declared.ways.Want.{Want}
use Rattle.world_model.specs.ExactWays.{load, HasRoomFor}
use Rattle.world_laws.specs.declared.TheConstants.{MAX_LOAD}
use Rattle.world_laws.specs.Reaching.{IsReachable}

-- A way in by the votes of some nodes says at most 3 messages, and 4 for each client, at each node.
abbrev pub LoadIsBounded : Type 0
LoadIsBounded = (w : ExactWorld) (chosen : ℕ → Bool) (a : Want) → IsReachable w → load chosen a w ≤ node_count w.ballots * (4 * length w.clients + 3)

-- With no more nodes and clients than there may be that is at most `MAX_LOAD`.
abbrev pub MaxLoadIsEnough : Type 0
MaxLoadIsEnough = (w : ExactWorld) (chosen : ℕ → Bool) (a : Want) → IsReachable w → node_count w.ballots ≤ MAX_NODES → length w.clients ≤ MAX_CLIENTS → load chosen a w ≤ MAX_LOAD

-- So a list of messages that can take so many more has room for each way in.
abbrev pub LongListsHaveRoom : Type 0
LongListsHaveRoom = (w : ExactWorld) (chosen : ℕ → Bool) (a : Want) → IsReachable w → node_count w.ballots ≤ MAX_NODES → length w.clients ≤ MAX_CLIENTS → length w.sent + MAX_LOAD ≤ MAX_MESSAGES → HasRoomFor chosen a w
