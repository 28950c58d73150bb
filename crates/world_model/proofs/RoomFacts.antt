-- What fits into the list of messages.
use Rattle.std.proofs.Common.{◌≡◌, ◌+◌, ◌-◌, ◌<◌, ◌≤◌, true, List, [], ◌∷◌, ◌++◌, length, arith}
use Rattle.std.proofs.lemmas.Bool.Decides.{nat_tests}
use Rattle.std.proofs.Math.ListN.{length-append}
use Rattle.lock_messages.specs.declared.messages.Message.{Message}
use Rattle.world_model.specs.declared.TheConstants.{MAX_MESSAGES}
use Rattle.world_model.specs.declared.exact.ExactWorld.{ExactWorld}
use Rattle.world_model.specs.ExactWorlds.{has_room, next_number}

-- the messages fit behind those that are there
pub has-room : (w : ExactWorld) (says : List Message) → has_room w says ≡ true → length says ≤ MAX_MESSAGES - length w.sent
has-room w says room = grind (arith, nat_tests)

-- one message has a number in range
pub fits-one : (w : ExactWorld) (m : Message) → has_room w (m ∷ []) ≡ true → next_number w ≤ MAX_MESSAGES
fits-one w m room = grind (arith, nat_tests)

-- and so has the last of some
pub fits-all : (w : ExactWorld) (says : List Message) → has_room w says ≡ true → 0 < length says → next_number w + length says ≤ MAX_MESSAGES + 1
fits-all w says room some = omega (arith, has-room w says room)

-- the list stays within its greatest length
pub still-roomy : (w : ExactWorld) (says : List Message) → has_room w says ≡ true → length w.sent ≤ MAX_MESSAGES → length (w.sent ++ says) ≤ MAX_MESSAGES
still-roomy w says room within = omega (arith, has-room w says room, length-append w.sent says)
